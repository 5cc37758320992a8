-- The rows of small worlds, worked out by hand.
use Rattle.std.proofs.Common.{◌≡◌, ℕ, List, [], ◌∷◌, ℤ, pos, negsuc, true, false, refl, map}
use Rattle.bfm_base.specs.declared.place.P3.{P3}
use Rattle.bfm_world.specs.Configuration.{Configuration}
use Rattle.contact_table.specs.Contacts.{no_contacts}
use Rattle.bfm_writer.specs.Rows.{rows_of}

at : ℤ → P3
at x = record { x = x; y = pos 0; z = pos 0 }

-- monomers along x in a periodic box of side 8, with the vectors along x of length 2 as 32 and 33
world_of : List P3 → List (List ℕ) → Configuration
world_of positions bonds = record {
  shape = record { sides = 8 ∷ 8 ∷ 8 ∷ []; periodic = true ∷ true ∷ true ∷ [] };
  set = (at (pos 2), 32) ∷ (at (negsuc 1), 33) ∷ [];
  table = no_contacts;
  positions = positions;
  bonds = bonds;
  labels = map (λ _. 0) positions;
  valences = map (λ _. 0) positions;
  fixed = map (λ _. false) positions;
}

-- two bonded monomers are one row
pair_row : rows_of (world_of (at (pos 0) ∷ at (pos 2) ∷ []) ((1 ∷ []) ∷ (0 ∷ []) ∷ [])) ≡ record { start = at (pos 0); ids = 32 ∷ [] } ∷ []
unfolding at world_of
pair_row = refl

-- without the bond they are two rows
apart_rows : rows_of (world_of (at (pos 0) ∷ at (pos 2) ∷ []) ([] ∷ [] ∷ [])) ≡ record { start = at (pos 0); ids = [] } ∷ record { start = at (pos 2); ids = [] } ∷ []
unfolding at world_of
apart_rows = refl

-- a bond through the boundary begins a row: the wrapped difference is in the set, and the plain one is not
boundary_rows : rows_of (world_of (at (pos 0) ∷ at (pos 6) ∷ []) ((1 ∷ []) ∷ (0 ∷ []) ∷ [])) ≡ record { start = at (pos 0); ids = [] } ∷ record { start = at (pos 6); ids = [] } ∷ []
unfolding at world_of
boundary_rows = refl

-- there and back, and then a monomer that is bonded to the first
there_and_back : rows_of (world_of (at (pos 2) ∷ at (pos 0) ∷ at (pos 4) ∷ at (pos 6) ∷ []) ((1 ∷ 2 ∷ []) ∷ (0 ∷ []) ∷ (0 ∷ 3 ∷ []) ∷ (2 ∷ []) ∷ []))
    ≡ record { start = at (pos 2); ids = 33 ∷ [] } ∷ record { start = at (pos 4); ids = 32 ∷ [] } ∷ []
unfolding at world_of
there_and_back = refl
