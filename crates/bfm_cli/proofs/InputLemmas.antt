-- What bytes that were taken say of all that an input had left.
use Rattle.std.proofs.Common.{◌≡◌, ℕ, List, [], ◌++◌, Option, Some, None, inl, inr, refl, ap, ◌∙◌, subst, append-nil}
use Rattle.std.specs.Io.KnownBytes.{Consumes, IsAtEnd}
use Rattle.bfm_base.specs.declared.cause.Refused.{Refused}
use Rattle.bfm_commands.specs.declared.loaded.Loaded.{Loaded}
use Rattle.bfm_session.specs.declared.loading.LoadFault.{LoadFault}
use Rattle.bfm_session.specs.Loading.{IsLoaded, IsShown, Stops, Supply, Takes, limited_verdict, refused, too_long}
use Rattle.bfm_session.proofs.LimitLemmas.{limited-shown, limited-long-more}
use Rattle.bfm_cli.specs.Promise.{Holds}

-- a source has some bytes left, whether it tells them or not
pub Holds-some : (left : Option (List ℕ)) → (bytes : List ℕ) × Holds left bytes
Holds-some None = ([], tt)
Holds-some (Some bytes) = (bytes, refl)

-- what was taken, and what is left behind it
Holds-taken : (old new : Option (List ℕ)) (taken : List ℕ) → Consumes old new taken → (rest : List ℕ) × Holds old (taken ++ rest) × (IsAtEnd new → rest ≡ [])
Holds-taken None new taken c = ([], tt, λ _. refl)
Holds-taken (Some all) None taken c = absurd c
Holds-taken (Some all) (Some rest) taken c = (rest, c, λ end. end)

pub Holds-whole : (old new : Option (List ℕ)) (taken : List ℕ) → Consumes old new taken → IsAtEnd new → Holds old taken
Holds-whole old new taken c end =
    let h = Holds-taken old new taken c in
    subst (Holds old) (ap (λ rest. taken ++ rest) (h.2 end) ∙ append-nil taken) h.1

-- a refusal that shows is one of the whole input
pub Holds-shown : (old new : Option (List ℕ)) (limit : ℕ) (taken : List ℕ) (wrong : Refused) → Consumes old new taken → limited_verdict limit taken ≡ refused wrong → IsShown wrong limit taken new
    → (bytes : List ℕ) × Holds old bytes × (limited_verdict limit bytes ≡ refused wrong)
Holds-shown old new limit taken wrong c v (inl shows) =
    let h = Holds-taken old new taken c in
    (taken ++ h.0, h.1, limited-shown limit taken h.0 wrong shows)
Holds-shown old new limit taken wrong c v (inr end) = (taken, Holds-whole old new taken c end, v)

-- and so are bytes beyond the limit
pub Holds-long : (old new : Option (List ℕ)) (limit : ℕ) (taken : List ℕ) → Consumes old new taken → limited_verdict limit taken ≡ too_long
    → (bytes : List ℕ) × Holds old bytes × (limited_verdict limit bytes ≡ too_long)
Holds-long old new limit taken c v =
    let h = Holds-taken old new taken c in
    (taken ++ h.0, h.1, limited-long-more limit taken h.0 v)

-- two limits that are one
pub Stops-limit : (fault : LoadFault) (m n : ℕ) (old new : Supply) → m ≡ n → ((taken : List ℕ) × Takes m old new taken × Stops fault m old new taken) → (taken : List ℕ) × Takes n old new taken × Stops fault n old new taken
Stops-limit fault m n old new e s = subst (λ k. (taken : List ℕ) × Takes k old new taken × Stops fault k old new taken) e s

pub IsLoaded-limit : (loaded : Loaded) (kept : List ℕ) (m n : ℕ) (old new : Supply) → m ≡ n → ((taken : List ℕ) × IsLoaded loaded kept m old new taken) → (taken : List ℕ) × IsLoaded loaded kept n old new taken
IsLoaded-limit loaded kept m n old new e s = subst (λ k. (taken : List ℕ) × IsLoaded loaded kept k old new taken) e s
