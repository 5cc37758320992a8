use Rattle.packed_lattice.proofs.lattice.Lattice.cube_free.Given as goal

abbrev pub ghosts-is_cube_free : goal.ghosts-is_cube_free
ghosts-is_cube_free a = record { name = a.blank.name; parts = a.blank.parts }
