-- What a sink took in several calls, one after another.
use Rattle.std.proofs.Common.{◌≡◌, ℕ, ◌+◌, ◌-◌, ◌++◌, Bool, true, false, ◌&&◌, List, Option, Some, None, Result, Ok, Err, OnOk, OnErr, [], ◌∷◌, length, take, drop, refl, ap, sym, ◌∙◌, subst, arith, append_assoc, append-nil, length-append}
use Rattle.std.specs.Io.KnownBytes.{Appends, Keeps}
use Rattle.std.proofs.Math.Seq.{take-append-add}
use Rattle.std.proofs.lemmas.List.{take-append-drop, take_rest, take_at, take-append-le}
use Rattle.bfm_base.specs.Faults.{Rose}
use Rattle.bfm_base.specs.Account.{Account, Takes, TookAll, TookPrefix, FailedCall, Flushes, Delivered, Delivers, Sends, is_empty}

Appends-append : (a b c : Option (List ℕ)) (xs ys : List ℕ) → Appends a b xs → Appends b c ys → Appends a c (xs ++ ys)
Appends-append None b c xs ys p q = tt
Appends-append (Some x) None c xs ys p q = absurd p
Appends-append (Some x) (Some y) None xs ys p q = absurd q
Appends-append (Some x) (Some y) (Some z) xs ys p q = q ∙ ap (λ l. l ++ ys) p ∙ append_assoc x xs ys

Appends-kept : (a b c : Option (List ℕ)) (xs : List ℕ) → Appends a b xs → Keeps b c → Appends a c xs
Appends-kept None b c xs p q = tt
Appends-kept (Some x) None c xs p q = absurd p
Appends-kept (Some x) (Some y) None xs p q = absurd q
Appends-kept (Some x) (Some y) (Some z) xs p q = q ∙ p

Appends-none : (a : Option (List ℕ)) → Appends a a []
Appends-none None = tt
Appends-none (Some x) = sym (append-nil x)

-- what is flushed after two pieces
flushed-append : (f : Bool) (xs ys : List ℕ) → ((f && is_empty xs) && is_empty ys) ≡ (f && is_empty (xs ++ ys))
flushed-append false xs ys = refl
flushed-append true [] ys = refl
flushed-append true (x ∷ xs) ys = refl

flushed-none : (f : Bool) → f ≡ (f && is_empty [])
flushed-none false = refl
flushed-none true = refl

Takes-append : (a b c : Account) (xs ys : List ℕ) → Takes a b xs → Takes b c ys → Takes a c (xs ++ ys)
Takes-append a b c xs ys p q = record {
  taken = Appends-append a.taken b.taken c.taken xs ys p.taken q.taken;
  flushed = q.flushed ∙ (ap (λ f. f && is_empty ys) p.flushed ∙ flushed-append a.flushed xs ys);
}

-- nothing, in no call
pub TookAll-none : (a : Account) → TookAll a a []
TookAll-none a = record { all = record { taken = Appends-none a.taken; flushed = flushed-none a.flushed }; calm = refl }

pub TookAll-append : (a b c : Account) (xs ys : List ℕ) → TookAll a b xs → TookAll b c ys → TookAll a c (xs ++ ys)
TookAll-append a b c xs ys p q = record { all = Takes-append a b c xs ys p.all q.all; calm = q.calm ∙ p.calm }

-- what was to follow does not matter
pub TookPrefix-append : (a b : Account) (xs ys : List ℕ) → TookPrefix a b xs → TookPrefix a b (xs ++ ys)
TookPrefix-append a b xs ys p =
    let n = p.prefix.0 in
    let same : take n (xs ++ ys) ≡ take n xs = take-append-le n xs ys p.prefix.1 in
    record {
      prefix = (n, omega (arith, p.prefix.1, length-append xs ys), subst (Takes a b) (sym same) p.prefix.2);
      rose = p.rose;
      never_falls = p.never_falls;
    }

-- the first part was taken, and then a prefix of the second
pub TookPrefix-later : (a b c : Account) (xs ys : List ℕ) → TookAll a b xs → TookPrefix b c ys → TookPrefix a c (xs ++ ys)
TookPrefix-later a b c xs ys p q =
    let more = q.prefix.0 in
    let same : take (length xs + more) (xs ++ ys) ≡ xs ++ take more ys = take-append-add xs ys more in
    record {
      prefix = (length xs + more, omega (arith, q.prefix.1, length-append xs ys), subst (Takes a c) (sym same) (Takes-append a b c xs (take more ys) p.all q.prefix.2));
      rose = subst (λ n. Rose n c.faults) p.calm q.rose;
      never_falls = omega (arith, p.calm, q.never_falls);
    }

-- a call failed behind a prefix
pub TookPrefix-failed : (a b c : Account) (xs rest : List ℕ) → TookAll a b xs → FailedCall b c → TookPrefix a c (xs ++ rest)
TookPrefix-failed a b c xs rest p q =
    let same : take (length xs) (xs ++ rest) ≡ xs = take_at xs rest (length xs) refl in
    record {
      prefix = (
        length xs,
        omega (arith, length-append xs rest),
        subst (Takes a c) (sym same) (record { taken = Appends-kept a.taken b.taken c.taken xs p.all.taken q.kept; flushed = q.flushed ∙ p.all.flushed }),
      );
      rose = subst (λ n. Rose n c.faults) p.calm q.rose;
      never_falls = omega (arith, p.calm, q.never_falls);
    }

-- the flush behind a text, and its failure
pub Delivered-flushed : (a b c : Account) (xs : List ℕ) → TookAll a b xs → Flushes b c → Delivered a c xs
Delivered-flushed a b c xs p q = record {
  whole = Appends-kept a.taken b.taken c.taken xs p.all.taken q.kept;
  flushed = q.flushed;
  calm = q.calm ∙ p.calm;
}

pub TookPrefix-flushed : (a b c : Account) (xs : List ℕ) → TookAll a b xs → FailedCall b c → TookPrefix a c xs
TookPrefix-flushed a b c xs p q = subst (TookPrefix a c) (append-nil xs) (TookPrefix-failed a b c xs [] p q)

-- a text was sent whole, and then another is
pub Sends-later : {A E : Type 0} (r : Result A E) (a b c : Account) (xs ys : List ℕ) → TookAll a b xs → Sends r b c ys → Sends r a c (xs ++ ys)
Sends-later (Ok v) a b c xs ys p q = TookAll-append a b c xs ys p q
Sends-later (Err e) a b c xs ys p q = TookPrefix-later a b c xs ys p q

-- a text was sent whole, and then a flush was tried
pub Delivers-flushed : {A E : Type 0} (r : Result A E) (a b c : Account) (xs : List ℕ) → TookAll a b xs → OnOk r (Flushes b c) → OnErr r (FailedCall b c) → Delivers r a c xs
Delivers-flushed (Ok v) a b c xs p flushed failed = Delivered-flushed a b c xs p flushed
Delivers-flushed (Err e) a b c xs p flushed failed = TookPrefix-flushed a b c xs p failed

-- these bytes are a part that was taken, and then the rest
pub record SentSoFar (old now : Account) (bytes rest : List ℕ) : Type 0 where
  pub sent : List ℕ
  pub whole : sent ++ rest ≡ bytes
  pub taken : TookAll old now sent

-- nothing is sent at first
pub SentSoFar-none : (a : Account) (bytes : List ℕ) → SentSoFar a a bytes bytes
SentSoFar-none a bytes = record { sent = []; whole = refl; taken = TookAll-none a }

-- a call took n more
pub SentSoFar-more : (a b c : Account) (bytes rest : List ℕ) (n : ℕ) → SentSoFar a b bytes rest → TookAll b c (take n rest)
    → SentSoFar a c bytes (take (length rest - n) (drop n rest))
SentSoFar-more a b c bytes rest n s h =
    let left : take n rest ++ take (length rest - n) (drop n rest) ≡ rest =
    ap (λ l. take n rest ++ l) (take_rest rest n) ∙ take-append-drop n rest in
    record {
      sent = s.sent ++ take n rest;
      whole = append_assoc s.sent (take n rest) _ ∙ (ap (λ l. s.sent ++ l) left ∙ s.whole);
      taken = TookAll-append a b c s.sent (take n rest) s.taken h;
    }

-- a call failed
pub SentSoFar-failed : (a b c : Account) (bytes rest : List ℕ) → SentSoFar a b bytes rest → FailedCall b c → TookPrefix a c bytes
SentSoFar-failed a b c bytes rest s h = subst (TookPrefix a c) s.whole (TookPrefix-failed a b c s.sent rest s.taken h)

-- all is sent
pub SentSoFar-all : (a b : Account) (bytes rest : List ℕ) → SentSoFar a b bytes rest → rest ≡ [] → TookAll a b bytes
SentSoFar-all a b bytes rest s h = subst (TookAll a b) (sym (append-nil s.sent) ∙ (ap (λ l. s.sent ++ l) (sym h) ∙ s.whole)) s.taken

-- where there is something left there is something
pub SentSoFar-some : (a b : Account) (bytes rest : List ℕ) → SentSoFar a b bytes rest → bytes ≡ [] → length rest ≡ 0
SentSoFar-some a b bytes rest s none = omega (arith, length-append s.sent rest, ap length (s.whole ∙ none))
