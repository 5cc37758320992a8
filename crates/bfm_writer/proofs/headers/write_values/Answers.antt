use Rattle.std.proofs.Common.{◌≡◌, ℕ, List, [], ◌∷◌, ◌++◌, codes, ap, ◌∙◌}
use Rattle.std.specs.List.{flat_map}
use Rattle.bfm_geom.specs.Difference.{side_of, is_periodic}
use Rattle.bfm_writer.specs.Header.{periodic_value, value_line, values_text}
use Rattle.bfm_writer.proofs.BatchLemmas.{Passes-text}
use Rattle.bfm_writer.proofs.headers.write_values.Goals as goal

-- the lines of these values
abbrev text_of : ℕ → ℕ → ℕ → ℕ → ℕ → ℕ → ℕ → List ℕ
text_of n x y z a b c = flat_map value_line
    ((codes "!number_of_monomers=", n) ∷ (codes "!box_x=", x) ∷ (codes "!box_y=", y) ∷ (codes "!box_z=", z)
    ∷ (codes "!periodic_x=", a) ∷ (codes "!periodic_y=", b) ∷ (codes "!periodic_z=", c) ∷ [])

same : (n n' x x' y y' z z' a a' b b' c c' : ℕ) → n ≡ n' → x ≡ x' → y ≡ y' → z ≡ z' → a ≡ a' → b ≡ b' → c ≡ c' → text_of n x y z a b c ≡ text_of n' x' y' z' a' b' c'
same n n' x x' y y' z z' a a' b b' c c' hn hx hy hz ha hb hc = cc

pub returns : goal.returns
returns g c =
    let w = c.args.world.now in
    let box = c.shape-shape.ensures.shape in
    let text : text_of c.len.result c.from.result c.from-2.result c.from-3.result c.periodic_value.result c.periodic_value-2.result c.periodic_value-3.result ≡ values_text w = same c.len.result _ c.from.result _ c.from-2.result _ c.from-3.result _ c.periodic_value.result _ c.periodic_value-2.result _ c.periodic_value-3.result _ c.len.ensures.count
    (c.from.ensures ∙ ap (λ s. side_of s 0) box) (c.from-2.ensures ∙ ap (λ s. side_of s 1) box) (c.from-3.ensures ∙ ap (λ s. side_of s 2) box)
    (c.periodic_value.ensures ∙ ap (λ s. periodic_value (is_periodic s 0)) box) (c.periodic_value-2.ensures ∙ ap (λ s. periodic_value (is_periodic s 1)) box) (c.periodic_value-3.ensures ∙ ap (λ s. periodic_value (is_periodic s 2)) box) in
    Passes-text _ _ _ _ _ _ (ap (λ l. c.args.batch.now ++ l) text) c.write_value_lines.ensures
