-- What a file comes to that is read up to a limit, and what a front of it shows.
use Rattle.std.proofs.Common.{◌≡◌, ℕ, zero, suc, ◌<◌, Bool, true, false, cond, nat_lt, List, [], ◌∷◌, ◌++◌, length, length-append, take, Option, Some, None, Result, Ok, Err, refl, ap, sym, ◌∙◌, arith}
use Rattle.std.proofs.lemmas.List.{take_all, take-append-le}
use Rattle.std.proofs.lemmas.Bool.Decides.{nat_tests}
use Rattle.bfm_base.specs.declared.cause.Cause.{Cause}
use Rattle.bfm_base.specs.declared.cause.Refused.{Refused}
use Rattle.bfm_lexer.specs.Lines.{finished_lines, unfinished}
use Rattle.bfm_lexer.proofs.LinesLemmas.{finished_lines-append}
use Rattle.bfm_commands.specs.Causes.{cause_of}
use Rattle.bfm_commands.specs.History.{History}
use Rattle.bfm_commands.specs.Verdict.{refused_at, first_wrong, first_wrong_of, verdict_of}
use Rattle.bfm_commands.specs.declared.loaded.Loaded.{Loaded}
use Rattle.bfm_session.specs.Loading.{accepted, refused, too_long, whole_verdict, limited_or, limited_verdict, IsOpen}

-- no line is wrong within the limit, and there is more
pub limited-long : (bytes : List ℕ) (limit : ℕ) → first_wrong_of (take limit bytes) ≡ None → limit < length bytes → limited_verdict limit bytes ≡ too_long
limited-long bytes limit right l =
    let long : nat_lt limit (length bytes) ≡ true = grind (arith, nat_tests) in
    ap (limited_or limit bytes) right ∙ ap (λ b. cond b too_long (whole_verdict (verdict_of bytes))) long

-- a file within the limit
pub limited-within : (bytes : List ℕ) (limit : ℕ) → IsOpen limit bytes → limited_verdict limit bytes ≡ whole_verdict (verdict_of bytes)
limited-within bytes limit o =
    let right : first_wrong_of (take limit bytes) ≡ None = ap first_wrong_of (take_all limit bytes o.within) ∙ o.right in
    let short : nat_lt limit (length bytes) ≡ false = (let l = o.within in grind (arith, nat_tests)) in
    ap (limited_or limit bytes) right ∙ ap (λ b. cond b too_long (whole_verdict (verdict_of bytes))) short

-- A wrong line of the front is that of the whole.
refused-more : (n : ℕ) (cause : Option Cause) (a b : Option Refused) (wrong : Refused) → refused_at n cause a ≡ Some wrong → (a ≡ Some wrong → b ≡ Some wrong) → refused_at n cause b ≡ Some wrong
refused-more n None a b wrong e f = f e
refused-more n (Some cause) a b wrong e f = e

first_wrong-more : (before : History) (xs ys : List (List ℕ)) (wrong : Refused) → first_wrong before xs ≡ Some wrong → first_wrong before (xs ++ ys) ≡ Some wrong
first_wrong-more before [] ys wrong e = absurd (cc)
first_wrong-more before (x ∷ xs) ys wrong e = refused-more (length before) (cause_of before x) _ _ wrong e (first_wrong-more (x ∷ before) xs ys wrong)

first_wrong_of-more : (xs ys : List ℕ) (wrong : Refused) → first_wrong_of xs ≡ Some wrong → first_wrong_of (xs ++ ys) ≡ Some wrong
first_wrong_of-more xs ys wrong e = ap (first_wrong []) (finished_lines-append xs ys) ∙ first_wrong-more [] (finished_lines xs) (finished_lines (unfinished xs ++ ys)) wrong e

take-front : (n : ℕ) (xs ys : List ℕ) → (more : List ℕ) × (take n (xs ++ ys) ≡ take n xs ++ more)
take-front zero xs ys = ([], refl)
take-front (suc n) [] ys = (take (suc n) ys, refl)
take-front (suc n) (x ∷ xs) ys = let h = take-front n xs ys in (h.0, ap (λ l. x ∷ l) h.1)

-- what shows in a front of a file is so of the file
pub limited-shown : (limit : ℕ) (taken rest : List ℕ) (wrong : Refused) → first_wrong_of (take limit taken) ≡ Some wrong → limited_verdict limit (taken ++ rest) ≡ refused wrong
limited-shown limit taken rest wrong e =
    let front = take-front limit taken rest in
    ap (limited_or limit (taken ++ rest)) (ap first_wrong_of front.1 ∙ first_wrong_of-more (take limit taken) front.0 wrong e)

not_long : (verdict : Result Loaded Refused) → whole_verdict verdict ≡ too_long → ⊥
not_long (Ok loaded) e = cc
not_long (Err wrong) e = cc

long_here : (limit : ℕ) (taken rest : List ℕ) (wrong : Option Refused) (long : Bool) → first_wrong_of (take limit taken) ≡ wrong → nat_lt limit (length taken) ≡ long → limited_or limit taken wrong ≡ too_long
    → limited_verdict limit (taken ++ rest) ≡ too_long
long_here limit taken rest (Some wrong) long e f v = absurd (cc)
long_here limit taken rest None true e f v =
    let l : limit < length taken = grind (arith, nat_tests) in
    limited-long (taken ++ rest) limit (ap first_wrong_of (take-append-le limit taken rest (omega arith)) ∙ e) (omega (arith, length-append taken rest))
long_here limit taken rest None false e f v =
    absurd (not_long (verdict_of taken) (sym (ap (λ b. cond b too_long (whole_verdict (verdict_of taken))) f) ∙ v))

pub limited-long-more : (limit : ℕ) (taken rest : List ℕ) → limited_verdict limit taken ≡ too_long → limited_verdict limit (taken ++ rest) ≡ too_long
limited-long-more limit taken rest v = long_here limit taken rest _ _ refl refl v

-- a file that is accepted within a limit is accepted
whole_accepted : (verdict : Result Loaded Refused) (loaded : Loaded) → whole_verdict verdict ≡ accepted loaded → verdict ≡ Ok loaded
whole_accepted (Ok given) loaded e = cc
whole_accepted (Err wrong) loaded e = absurd (cc)

accepted_here : (limit : ℕ) (bytes : List ℕ) (loaded : Loaded) (wrong : Option Refused) (long : Bool) → nat_lt limit (length bytes) ≡ long → limited_or limit bytes wrong ≡ accepted loaded → verdict_of bytes ≡ Ok loaded
accepted_here limit bytes loaded (Some wrong) long f v = absurd (cc)
accepted_here limit bytes loaded None true f v = absurd (let e = sym (ap (λ b. cond b too_long (whole_verdict (verdict_of bytes))) f) ∙ v in cc)
accepted_here limit bytes loaded None false f v = whole_accepted (verdict_of bytes) loaded (sym (ap (λ b. cond b too_long (whole_verdict (verdict_of bytes))) f) ∙ v)

pub limited-accepted : (limit : ℕ) (bytes : List ℕ) (loaded : Loaded) → limited_verdict limit bytes ≡ accepted loaded → verdict_of bytes ≡ Ok loaded
limited-accepted limit bytes loaded v = accepted_here limit bytes loaded (first_wrong_of (take limit bytes)) _ refl v
