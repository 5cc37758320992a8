use Rattle.std.proofs.Common.{◌≡◌, drop, map, string_bytes}
use Rattle.bfm_cli.specs.Keys.{switch_of}
use Rattle.bfm_cli.specs.Words.{switched_by}
use Rattle.bfm_cli.proofs.words.switched_by.Given as goal

-- the words so far switch the switch neither way
abbrev pub invariant-loop-word : goal.invariant-loop-word
invariant-loop-word l = switched_by (switch_of l.switch) (drop l.word-index (map string_bytes l.words)) ≡ switched_by (switch_of l.switch) (map string_bytes l.words)
