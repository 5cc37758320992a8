use Rattle.std.proofs.Common.{arith}
use Rattle.bfm_session.specs.Loading.{IsOpen}
use Rattle.bfm_session.proofs.LoadLemmas.{Takes-none, accepted-end, Stops-end}
use Rattle.bfm_session.proofs.loading.load.Goals as goal

pub returns-in-Ok-clause-loaded : goal.returns-in-Ok-clause-loaded
returns-in-Ok-clause-loaded g c =
    let read = c.in_ok-reader.ensures in
    let bytes = c.in_ok-reader.bytes.items in
    let undecided : IsOpen c.args.limit bytes = record { within = omega (arith, read.within); right = read.stands.follows.right } in (
      bytes,
      record {
        takes = Takes-none c.args.limit _ _ bytes read.all.0 undecided;
        read = record { end = read.all.1; calm = read.calm };
        verdict = accepted-end bytes c.args.limit c.in-Ok.loaded undecided (c.in-Ok.ensures.answer bytes read.stands);
        part = c.truncate.ensures.items;
      },
    )

pub returns-in-Err-clause-stopped : goal.returns-in-Err-clause-stopped
returns-in-Err-clause-stopped g c =
    let read = c.in_ok-reader.ensures in
    let bytes = c.in_ok-reader.bytes.items in
    let undecided : IsOpen c.args.limit bytes = record { within = omega (arith, read.within); right = read.stands.follows.right } in (
      bytes,
      Takes-none c.args.limit _ _ bytes read.all.0 undecided,
      rw c.fault_of.ensures (Stops-end c.in-Err.stop bytes c.args.limit _ _ undecided read.all.1 read.calm (c.in-Err.ensures.answer bytes read.stands)),
    )
