use Rattle.std.proofs.Common.{take}
use Rattle.std.specs.List.{flat_map}
use Rattle.bfm_base.specs.Account.{TookAll}
use Rattle.cluster_stats.specs.Contacts.{count_of}
use Rattle.bfm_session.specs.Tables.{class_line, classes_from}
use Rattle.bfm_session.proofs.tables.contact_lines.Given as goal

abbrev pub invariant-loop-a : goal.invariant-loop-a
invariant-loop-a g l =
    TookAll (g.S.Sink.account l.initial.sink) (g.S.Sink.account l.sink)
    (flat_map (λ a. flat_map (λ b. class_line a b (count_of l.fn.counts a b)) (classes_from a)) (take l.a (classes_from 0)))
