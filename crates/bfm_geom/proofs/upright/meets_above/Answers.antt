use Rattle.std.proofs.Common.{pos}
use Rattle.bfm_geom.proofs.UprightLemmas.{SamePoints-half, SamePoints-quarter, SamePoints-three_quarter, apart_same, found_same}
use Rattle.bfm_geom.proofs.upright.meets_above.Goals as goal

pub returns-then-b-lt0-clause-found : goal.returns-then-b-lt0-clause-found
returns-then-b-lt0-clause-found c =
    found_same c.args.b c.args.c c.args.d c.half_turn.result c.half_turn-then-b-lt0.result c.half_turn-then-b-lt0-2.result (pos 1) (pos 1) c.meets_leaning-then-b-lt0.result
    (SamePoints-half c.args.b c.args.c c.args.d c.half_turn.result c.half_turn-then-b-lt0.result c.half_turn-then-b-lt0-2.result (pos 1) c.half_turn.ensures.value c.half_turn-then-b-lt0.ensures.value c.half_turn-then-b-lt0-2.ensures.value)
    c.meets_leaning-then-b-lt0.ensures.found

pub returns-then-b-lt0-clause-none_missed : goal.returns-then-b-lt0-clause-none_missed
returns-then-b-lt0-clause-none_missed c =
    apart_same c.args.b c.args.c c.args.d c.half_turn.result c.half_turn-then-b-lt0.result c.half_turn-then-b-lt0-2.result (pos 1) (pos 1) c.meets_leaning-then-b-lt0.result
    (SamePoints-half c.args.b c.args.c c.args.d c.half_turn.result c.half_turn-then-b-lt0.result c.half_turn-then-b-lt0-2.result (pos 1) c.half_turn.ensures.value c.half_turn-then-b-lt0.ensures.value c.half_turn-then-b-lt0-2.ensures.value)
    c.meets_leaning-then-b-lt0.ensures.none_missed

pub returns-then-b-gt0-2-clause-found : goal.returns-then-b-gt0-2-clause-found
returns-then-b-gt0-2-clause-found c =
    found_same c.args.b c.args.c c.args.d c.quarter_turn.result c.quarter_turn-then-b-gt0-2.result c.quarter_turn-then-b-gt0-2-2.result (pos 1) (pos 1) c.meets_leaning-then-b-gt0-2.result
    (SamePoints-quarter c.args.b c.args.c c.args.d c.quarter_turn.result c.quarter_turn-then-b-gt0-2.result c.quarter_turn-then-b-gt0-2-2.result (pos 1) c.quarter_turn.ensures.value c.quarter_turn-then-b-gt0-2.ensures.value c.quarter_turn-then-b-gt0-2-2.ensures.value)
    c.meets_leaning-then-b-gt0-2.ensures.found

pub returns-then-b-gt0-2-clause-none_missed : goal.returns-then-b-gt0-2-clause-none_missed
returns-then-b-gt0-2-clause-none_missed c =
    apart_same c.args.b c.args.c c.args.d c.quarter_turn.result c.quarter_turn-then-b-gt0-2.result c.quarter_turn-then-b-gt0-2-2.result (pos 1) (pos 1) c.meets_leaning-then-b-gt0-2.result
    (SamePoints-quarter c.args.b c.args.c c.args.d c.quarter_turn.result c.quarter_turn-then-b-gt0-2.result c.quarter_turn-then-b-gt0-2-2.result (pos 1) c.quarter_turn.ensures.value c.quarter_turn-then-b-gt0-2.ensures.value c.quarter_turn-then-b-gt0-2-2.ensures.value)
    c.meets_leaning-then-b-gt0-2.ensures.none_missed

pub returns-then-b-lt0-2-clause-found : goal.returns-then-b-lt0-2-clause-found
returns-then-b-lt0-2-clause-found c =
    found_same c.args.b c.args.c c.args.d c.three_quarter_turn.result c.three_quarter_turn-then-b-lt0-2.result c.three_quarter_turn-then-b-lt0-2-2.result (pos 1) (pos 1) c.meets_leaning-then-b-lt0-2.result
    (SamePoints-three_quarter c.args.b c.args.c c.args.d c.three_quarter_turn.result c.three_quarter_turn-then-b-lt0-2.result c.three_quarter_turn-then-b-lt0-2-2.result (pos 1) c.three_quarter_turn.ensures.value c.three_quarter_turn-then-b-lt0-2.ensures.value c.three_quarter_turn-then-b-lt0-2-2.ensures.value)
    c.meets_leaning-then-b-lt0-2.ensures.found

pub returns-then-b-lt0-2-clause-none_missed : goal.returns-then-b-lt0-2-clause-none_missed
returns-then-b-lt0-2-clause-none_missed c =
    apart_same c.args.b c.args.c c.args.d c.three_quarter_turn.result c.three_quarter_turn-then-b-lt0-2.result c.three_quarter_turn-then-b-lt0-2-2.result (pos 1) (pos 1) c.meets_leaning-then-b-lt0-2.result
    (SamePoints-three_quarter c.args.b c.args.c c.args.d c.three_quarter_turn.result c.three_quarter_turn-then-b-lt0-2.result c.three_quarter_turn-then-b-lt0-2-2.result (pos 1) c.three_quarter_turn.ensures.value c.three_quarter_turn-then-b-lt0-2.ensures.value c.three_quarter_turn-then-b-lt0-2-2.ensures.value)
    c.meets_leaning-then-b-lt0-2.ensures.none_missed
