use Rattle.std.proofs.Common.{arith, pos}
use Rattle.bfm_geom.proofs.IntegerLemmas.{sums}
use Rattle.bfm_geom.proofs.UprightLemmas.{SamePoints-upside_down, apart_same, found_same}
use Rattle.bfm_geom.proofs.upright.meets_upright.Goals as goal

pub returns-else-rise-gt0-clause-found : goal.returns-else-rise-gt0-clause-found
returns-else-rise-gt0-clause-found c =
    found_same c.args.b c.args.c c.args.d c.upside_down.result c.upside_down-else-rise-gt0.result c.upside_down-else-rise-gt0-2.result c.args.rise (pos 1) c.meets_above-else-rise-gt0.result
    (SamePoints-upside_down c.args.b c.args.c c.args.d c.upside_down.result c.upside_down-else-rise-gt0.result c.upside_down-else-rise-gt0-2.result c.args.rise (omega (arith, sums)) c.upside_down.ensures.value c.upside_down-else-rise-gt0.ensures.value c.upside_down-else-rise-gt0-2.ensures.value)
    c.meets_above-else-rise-gt0.ensures.found

pub returns-else-rise-gt0-clause-none_missed : goal.returns-else-rise-gt0-clause-none_missed
returns-else-rise-gt0-clause-none_missed c =
    apart_same c.args.b c.args.c c.args.d c.upside_down.result c.upside_down-else-rise-gt0.result c.upside_down-else-rise-gt0-2.result c.args.rise (pos 1) c.meets_above-else-rise-gt0.result
    (SamePoints-upside_down c.args.b c.args.c c.args.d c.upside_down.result c.upside_down-else-rise-gt0.result c.upside_down-else-rise-gt0-2.result c.args.rise (omega (arith, sums)) c.upside_down.ensures.value c.upside_down-else-rise-gt0.ensures.value c.upside_down-else-rise-gt0-2.ensures.value)
    c.meets_above-else-rise-gt0.ensures.none_missed
