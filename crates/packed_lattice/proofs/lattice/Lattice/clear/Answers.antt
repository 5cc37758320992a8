use Rattle.std.proofs.Common.{arith}
use Rattle.packed_lattice.proofs.PackingLemmas.{IsEmpty-zeros}
use Rattle.packed_lattice.proofs.lattice.Lattice.clear.Goals as goal

pub returns-clause-free : goal.returns-clause-free
returns-clause-free c =
    let a = c.self.inside in
    IsEmpty-zeros a.shape a.row _ c.fill.new.self.items c.self.invariant.fits_row (omega (arith, c.self.invariant.fits_box, a.words.ok.0)) (c.fill.ensures.items (λ y e. e))
