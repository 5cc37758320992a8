-- A worked case by hand: a step that sweeps a bond through an image of another one.
use Rattle.std.proofs.Common.{◌≡◌, ℤ, pos, negsuc, true, false, [], ◌∷◌, refl, arith}
use Rattle.std.proofs.lemmas.Int.{ints}
use Rattle.bfm_base.specs.declared.place.P3.{P3}
use Rattle.bfm_base.specs.declared.place.Dir.TheVariants.{ZUp}
use Rattle.contact_table.specs.Contacts.{no_contacts}
use Rattle.bfm_world.specs.Configuration.{Configuration, is_legal}
use Rattle.bfm_world.specs.Sweeping.{SweepsBond}

abbrev at : ℤ → ℤ → ℤ → P3
at x y z = record { x = x; y = y; z = z }

-- In a periodic box of side 8, monomer 0 is at the origin and monomer 1 at (2, 2, 0), and they are bonded. So are
-- monomer 2 at (8, 2, 0) and monomer 3 at (2, -8, 0), through the boundaries of x and y. The set is not free: it has (2, 2, 0).
abbrev crossed : Configuration
crossed = record {
  shape = record { sides = 8 ∷ 8 ∷ 8 ∷ []; periodic = true ∷ true ∷ true ∷ [] };
  set = (at (pos 2) (pos 2) (pos 0), 17) ∷ (at (negsuc 1) (negsuc 1) (pos 0), 18) ∷ (at (pos 2) (negsuc 1) (pos 0), 19) ∷ (at (negsuc 1) (pos 2) (pos 0), 20)
      ∷ (at (pos 2) (pos 2) (pos 1), 21) ∷ (at (negsuc 1) (negsuc 1) (negsuc 0), 22) ∷ [];
  table = no_contacts;
  positions = at (pos 0) (pos 0) (pos 0) ∷ at (pos 2) (pos 2) (pos 0) ∷ at (pos 8) (pos 2) (pos 0) ∷ at (pos 2) (negsuc 7) (pos 0) ∷ [];
  bonds = (1 ∷ []) ∷ (0 ∷ []) ∷ (3 ∷ []) ∷ (2 ∷ []) ∷ [];
  labels = 0 ∷ 0 ∷ 0 ∷ 0 ∷ [];
  valences = 0 ∷ 0 ∷ 0 ∷ 0 ∷ [];
  fixed = false ∷ false ∷ false ∷ false ∷ [];
}

-- monomer 1 may step up
legal-crossed : is_legal crossed 1 ZUp ≡ true
legal-crossed = refl

-- The image of the other bond from (0, 2, 0) to (2, 0, 0) passes through (1, 1, 0), halfway along the bond before the step.
SweepsBond-crossed : SweepsBond crossed 1 ZUp 0 2 3
SweepsBond-crossed = record {
  moved = refl;
  other = refl;
  differ = record { first = (λ e. absurd (omega arith), λ e. absurd (omega arith)); second = (λ e. absurd (omega arith), λ e. absurd (omega arith)) };
  meets = (
    at (pos 0) (pos 2) (pos 0),
    record {
      image = record { x = (negsuc 0, refl); y = (pos 0, refl); z = (pos 0, refl) };
      meets = (
        record { u = pos 1; v = pos 1; w = pos 0; p = pos 1; q = pos 1 },
        record {
          corners = (omega (arith, ints), omega (arith, ints), omega (arith, ints));
          ends = (omega (arith, ints), omega (arith, ints));
          total = refl;
          some = omega (arith, ints);
          x = refl;
          y = refl;
          z = refl;
        },
      );
    },
  );
}
