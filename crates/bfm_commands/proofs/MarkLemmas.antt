-- Labels and valences that are given to one monomer after the other.
use Rattle.std.proofs.Common.{◌≡◌, ℕ, ◌+◌, ◌<◌, inl, inr, List, length, get_or, ◌∙◌, arith}
use Rattle.std.proofs.Math.ListN.{set}
use Rattle.std.proofs.lemmas.List.{get_or-set_same, get_or-set_other}
use Rattle.std.proofs.lemmas.Bool.Decides.{eqb_tells}

-- the first so many numbers of a list are those of another
abbrev pub AgreesBelow : ℕ → List ℕ → List ℕ → Type 0
AgreesBelow n xs ys = (k : ℕ) → k < n → get_or xs k 0 ≡ get_or ys k 0

pub AgreesBelow-set : (n : ℕ) (xs ys : List ℕ) (y : ℕ) → n < length xs → y ≡ get_or ys n 0 → AgreesBelow n xs ys → AgreesBelow (n + 1) (set xs n y) ys
AgreesBelow-set n xs ys y l is h k m =
    elim (eqb_tells k n) [
      | inl e ↦ rw e.1 (get_or-set_same xs n y 0 l ∙ is)
      | inr d ↦ get_or-set_other xs n k y 0 d.1 ∙ h k (omega (arith, d.1))
    ]
