use Rattle.packed_lattice.proofs.lattice.tests.a_lattice_agrees_with_a_list_of_sites.Given as goal

abbrev pub ghosts-agree : goal.ghosts-agree
ghosts-agree g a = record { name = a.blank.name; parts = a.blank.parts }
