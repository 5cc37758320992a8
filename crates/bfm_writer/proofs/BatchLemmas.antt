-- Bytes that are gathered and sent in several steps.
use Rattle.std.proofs.Common.{◌≡◌, ℕ, ◌++◌, List, [], Result, Ok, Err, OnOk, refl, ap, sym, ◌∙◌, subst, append_assoc, append-nil}
use Rattle.bfm_base.specs.Account.{Account, TookAll, TookPrefix, Sends}
use Rattle.bfm_base.proofs.SendLemmas.{TookAll-none, TookAll-append, TookPrefix-append, TookPrefix-later}
use Rattle.bfm_writer.specs.Batch.{TookFirst, Passes}

-- nothing is taken at first
pub TookFirst-none : (a : Account) (bytes : List ℕ) → TookFirst a a bytes bytes
TookFirst-none a bytes = record { first = []; whole = refl; taken = TookAll-none a }

-- nor where what is left is the same in other words
pub TookFirst-same : (a : Account) (bytes left : List ℕ) → bytes ≡ left → TookFirst a a bytes left
TookFirst-same a bytes left e = record { first = []; whole = sym e; taken = TookAll-none a }

-- where nothing is left, all is taken
TookAll-first : (a b : Account) (bytes rest : List ℕ) → TookFirst a b bytes rest → rest ≡ [] → TookAll a b bytes
TookAll-first a b bytes rest h none =
    subst (TookAll a b) (sym (append-nil h.first) ∙ (ap (λ l. h.first ++ l) (sym none) ∙ h.whole)) h.taken

-- some of the rest is taken after the first
pub TookFirst-then : (a b c : Account) (bytes left rest : List ℕ) → TookFirst a b bytes left → TookFirst b c left rest → TookFirst a c bytes rest
TookFirst-then a b c bytes left rest p q = record {
  first = p.first ++ q.first;
  whole = append_assoc p.first q.first rest ∙ (ap (λ l. p.first ++ l) q.whole ∙ p.whole);
  taken = TookAll-append a b c p.first q.first p.taken q.taken;
}

-- a call failed after the first
pub TookPrefix-then : (a b c : Account) (bytes left : List ℕ) → TookFirst a b bytes left → TookPrefix b c left → TookPrefix a c bytes
TookPrefix-then a b c bytes left p q = subst (TookPrefix a c) p.whole (TookPrefix-later a b c p.first left p.taken q)

pub Passes-then : {A E : Type 0} (r : Result A E) (a b c : Account) (bytes left : List ℕ) (rest : A → List ℕ) → TookFirst a b bytes left → Passes r b c left rest
    → Passes r a c bytes rest
Passes-then (Ok v) a b c bytes left rest p q = TookFirst-then a b c bytes left (rest v) p q
Passes-then (Err e) a b c bytes left rest p q = TookPrefix-then a b c bytes left p q

-- Of the bytes y ++ (t ++ more) that are left, the first two parts are passed, and z is left of those.
pub TookFirst-next : (a b c : Account) (bytes left y t more z : List ℕ) → TookFirst a b bytes left → left ≡ y ++ (t ++ more) → TookFirst b c (y ++ t) z
    → TookFirst a c bytes (z ++ more)
TookFirst-next a b c bytes left y t more z p e q =
    TookFirst-then a b c bytes left (z ++ more) p (record {
      first = q.first;
      whole = sym (append_assoc q.first z more) ∙ (ap (λ l. l ++ more) q.whole ∙ (append_assoc y t more ∙ sym e));
      taken = q.taken;
    })

-- a call failed on the way
pub TookPrefix-next : (a b c : Account) (bytes left y t more : List ℕ) → TookFirst a b bytes left → left ≡ y ++ (t ++ more) → TookPrefix b c (y ++ t)
    → TookPrefix a c bytes
TookPrefix-next a b c bytes left y t more p e q =
    TookPrefix-then a b c bytes left p (subst (TookPrefix b c) (append_assoc y t more ∙ sym e) (TookPrefix-append b c (y ++ t) more q))

-- all that is left is sent
pub Sends-rest : {A E : Type 0} (r : Result A E) (a b c : Account) (text left rest : List ℕ) → TookFirst a b text left → Passes r b c left (λ _. rest) → OnOk r (rest ≡ [])
    → Sends r a c text
Sends-rest (Ok v) a b c text left rest p q none = TookAll-first a c text rest (TookFirst-then a b c text left rest p q) none
Sends-rest (Err e) a b c text left rest p q none = TookPrefix-then a b c text left p q

-- the same text in other words
pub Passes-text : {A E : Type 0} (r : Result A E) (a b : Account) (bytes text : List ℕ) (rest : A → List ℕ) → bytes ≡ text → Passes r a b bytes rest → Passes r a b text rest
Passes-text r a b bytes text rest e h = subst (λ t. Passes r a b t rest) e h
