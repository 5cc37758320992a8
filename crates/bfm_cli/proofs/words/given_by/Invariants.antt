use Rattle.std.proofs.Common.{◌≡◌, drop, map, string_bytes}
use Rattle.bfm_cli.specs.Keys.{key_of}
use Rattle.bfm_cli.specs.Words.{given_by}
use Rattle.bfm_cli.proofs.words.given_by.Given as goal

-- the words so far give the key nothing
abbrev pub invariant-loop-word : goal.invariant-loop-word
invariant-loop-word l = given_by (key_of l.key) (drop l.word-index (map string_bytes l.words)) ≡ given_by (key_of l.key) (map string_bytes l.words)
