-- From bytes that were taken to what is said of a file.
use Rattle.std.proofs.Common.{◌≡◌, ℕ, ◌+◌, ◌-◌, ◌<◌, ◌≤◌, min, List, [], ◌++◌, length, length-append, take, None, Ok, Err, inl, inr, ap, sym, ◌∙◌, subst, append-nil, arith}
use Rattle.std.proofs.Math.Seq.{take-append_seam, take-append-add}
use Rattle.std.proofs.lemmas.List.{take_min}
use Rattle.std.specs.Io.KnownBytes.{Consumes, IsAtEnd}
use Rattle.bfm_base.specs.declared.cause.ReadStop.{ReadStop}
use Rattle.bfm_base.specs.declared.cause.ReadStop.TheVariants as stops
use Rattle.bfm_commands.specs.Reading.{Ends}
use Rattle.bfm_commands.specs.Verdict.{first_wrong_of, verdict_of, IsStop}
use Rattle.bfm_commands.specs.declared.loaded.Loaded.{Loaded}
use Rattle.bfm_session.specs.Loading.{accepted, too_long, whole_verdict, limited_or, limited_verdict, IsOpen, Supply, Takes, Stops}
use Rattle.bfm_session.proofs.LimitLemmas.{limited-long, limited-within}
use Rattle.bfm_session.specs.Pieces.{Decides, fault_of}
use Rattle.bfm_session.specs.declared.loading.LoadFault.{LoadFault}
use Rattle.bfm_session.specs.declared.loading.LoadFault.TheVariants as faults

-- what the limit admits of bytes and a piece behind them
take-admitted : (bytes piece : List ℕ) (limit n : ℕ) → length bytes ≤ limit → n ≡ min (limit - length bytes) (length piece) → take limit (bytes ++ piece) ≡ bytes ++ take n piece
take-admitted bytes piece limit n l e =
    let whole : limit ≡ length bytes + (limit - length bytes) = omega arith in
    ap (λ n. take n (bytes ++ piece)) whole
    ∙ (take-append-add bytes piece (limit - length bytes) ∙ ap (λ p. bytes ++ p) (sym (ap (λ n. take n piece) e ∙ take_min (limit - length bytes) piece)))

-- a reader stopped with a piece, of which it was fed what the limit admits
pub Decides-stop : (stop : ReadStop) (bytes piece : List ℕ) (limit n : ℕ) → length bytes ≤ limit → n ≡ min (limit - length bytes) (length piece)
    → IsStop stop (first_wrong_of (bytes ++ take n piece)) → Decides (fault_of stop) limit (bytes ++ piece)
Decides-stop (stops.Refused wrong) bytes piece limit n l e s = ap first_wrong_of (take-admitted bytes piece limit n l e) ∙ s
Decides-stop stops.Memory bytes piece limit n l e s = tt

-- a piece goes beyond the limit, and no line is wrong within it
pub limited-longer : (bytes piece : List ℕ) (limit n : ℕ) → length bytes ≤ limit → n ≡ min (limit - length bytes) (length piece) → first_wrong_of (bytes ++ take n piece) ≡ None
    → limit - length bytes < length piece → limited_verdict limit (bytes ++ piece) ≡ too_long
limited-longer bytes piece limit n l e right m =
    limited-long (bytes ++ piece) limit (ap first_wrong_of (take-admitted bytes piece limit n l e) ∙ right) (omega (arith, length-append bytes piece))

-- a piece was taken behind bytes that decide nothing
pub Takes-piece : (limit : ℕ) (old new : Supply) (bytes piece : List ℕ) → Consumes old.left new.left (bytes ++ piece) → IsOpen limit bytes → length piece ≤ 65536 → Takes limit old new (bytes ++ piece)
Takes-piece limit old new bytes piece c o l = record {
  consumed = c;
  undecided = (length bytes, omega (arith, length-append bytes piece), subst (IsOpen limit) (sym (take-append_seam bytes piece)) o);
}

-- no piece more
pub Takes-none : (limit : ℕ) (old new : Supply) (bytes : List ℕ) → Consumes old.left new.left bytes → IsOpen limit bytes → Takes limit old new bytes
Takes-none limit old new bytes c o =
    subst (Takes limit old new) (append-nil bytes) (Takes-piece limit old new bytes [] (subst (Consumes old.left new.left) (sym (append-nil bytes)) c) o (omega arith))

-- a piece decides
pub Stops-decided : (fault : LoadFault) (limit : ℕ) (old new : Supply) (taken : List ℕ) → Decides fault limit taken → new.faults ≡ old.faults → Stops fault limit old new taken
Stops-decided (faults.Refused wrong) limit old new taken d calm = (ap (limited_or limit taken) d, inl d, calm)
Stops-decided faults.TooLong limit old new taken d calm = (d, calm)
Stops-decided faults.ReadFault limit old new taken d calm = absurd d
Stops-decided faults.Memory limit old new taken d calm = calm

-- the end of a file that was accepted, and of one that was not
pub accepted-end : (bytes : List ℕ) (limit : ℕ) (loaded : Loaded) → IsOpen limit bytes → Ends (Ok loaded) (verdict_of bytes) → limited_verdict limit bytes ≡ accepted loaded
accepted-end bytes limit loaded o e = limited-within bytes limit o ∙ ap whole_verdict e

pub Stops-end : (stop : ReadStop) (bytes : List ℕ) (limit : ℕ) (old new : Supply) → IsOpen limit bytes → IsAtEnd new.left → new.faults ≡ old.faults → Ends (Err stop) (verdict_of bytes)
    → Stops (fault_of stop) limit old new bytes
Stops-end (stops.Refused wrong) bytes limit old new o end calm e = (limited-within bytes limit o ∙ ap whole_verdict e, inr end, calm)
Stops-end stops.Memory bytes limit old new o end calm e = absurd e
