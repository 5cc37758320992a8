use Rattle.std.proofs.Common.{◌≡◌, ◌<◌, ℕ, length}
use Rattle.std.specs.Prelude.{slice_index}
use Rattle.bfm_base.specs.declared.place.Dir.{Dir}
use Rattle.packed_engine.specs.Spots.{allows, vector_at}
use Rattle.packed_engine.proofs.StepLemmas.{is_kept}
use Rattle.packed_engine.proofs.allowed.Allowed.new.Given as goal

abbrev pub invariant-loop-key : goal.invariant-loop-key
invariant-loop-key l = record {
  size : length l.steps ≡ 512;
  done : (k : ℕ) → k < l.key → (dir : Dir) → allows (slice_index l.steps k) dir ≡ is_kept l.set (vector_at k) dir;
}
