use Rattle.packed_lattice.proofs.PackingLemmas.{has_bit-is}
use Rattle.packed_lattice.proofs.lattice.has_bit.Goals as goal

pub returns : goal.returns
returns c = has_bit-is c.args.word c.args.k c.requires
