use Rattle.std.proofs.Common.{◌≡◌, ℕ, ◌==◌, false, List, [], ◌∷◌, ◌++◌, length, codes, refl, ap, sym, ◌∙◌}
use Rattle.std.specs.List.{flat_map}
use Rattle.std.proofs.lemmas.Result.{err_from_is_err_and}
use Rattle.bfm_writer.specs.Text.{added_text, bond_line}
use Rattle.bfm_writer.proofs.BatchLemmas.{TookFirst-none, TookFirst-next, TookPrefix-next, Passes-then}
use Rattle.bfm_writer.proofs.groups.write_added_bonds.Goals as goal

-- the text of bonds, where there are any
added_text-some : (bonds : List (ℕ × ℕ)) → (length bonds == 0) ≡ false → added_text bonds ≡ codes "!add_bonds\n" ++ flat_map bond_line bonds
added_text-some [] h = absurd (cc)
added_text-some (b ∷ bonds) h = refl

pub returns-in_err-put : goal.returns-in_err-put
returns-in_err-put g c =
    let p = err_from_is_err_and c.from_residual.result c.from_residual.ensures.1 in
    let text = added_text-some c.args.added.now (sym c.is_empty.ensures ∙ c.if-is_empty.false) in
    rw p.1 (TookPrefix-next _ _ _ _ _ c.args.batch.now (codes "!add_bonds\n") (flat_map bond_line c.args.added.now) (TookFirst-none _ _)
    (ap (λ l. c.args.batch.now ++ l) text) c.in_err-put.ensures)

pub returns : goal.returns
returns g c =
    let text = added_text-some c.args.added.now (sym c.is_empty.ensures ∙ c.if-is_empty.false) in
    Passes-then _ _ _ _ _ _ _
    (TookFirst-next _ _ _ _ _ c.args.batch.now (codes "!add_bonds\n") (flat_map bond_line c.args.added.now) _ (TookFirst-none _ _)
    (ap (λ l. c.args.batch.now ++ l) text) c.in_ok-put.ensures) c.write_bonds.ensures
