use Rattle.std.proofs.Common.{◌≡◌, [], take, drop, map, string_bytes}
use Rattle.bfm_cli.specs.Keys.{key_of, switch_of}
use Rattle.bfm_cli.specs.Words.{first_wrong}
use Rattle.bfm_cli.proofs.words.first_wrong.Given as goal

-- the words so far are right
abbrev pub invariant-loop-before : goal.invariant-loop-before
invariant-loop-before l =
    first_wrong (map key_of l.keys) (map switch_of l.switches) (take l.before (map string_bytes l.words)) (drop l.before (map string_bytes l.words)) ≡ first_wrong (map key_of l.keys) (map switch_of l.switches) [] (map string_bytes l.words)
