use Rattle.packed_engine.proofs.engine.PackedEngineEngine.attempt.Given as goal

-- the ledger that nobody counts in
abbrev pub ghosts-uncounted : goal.ghosts-uncounted
ghosts-uncounted a = record { name = a.blank.name; parts = a.blank.parts }
