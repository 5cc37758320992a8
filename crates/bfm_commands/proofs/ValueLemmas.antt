-- The values of commands, by what follows their names.
use Rattle.std.proofs.Common.{◌≡◌, ℕ, Bool, true, false, cond, ◌&&◌, nat_le, ℤ, pos, negsuc, List, Option, None, Some, is_none, Result, Ok, Err, refl, ap, ◌∙◌}
use Rattle.std.specs.Option.{ok_or}
use Rattle.bfm_base.specs.declared.cause.Cause.{Cause}
use Rattle.bfm_base.specs.declared.cause.Cause.TheVariants.{BadLine, OutOfLimit}
use Rattle.bfm_commands.specs.Forms.{natural_within, limited_value, value_number, value_of}
use Rattle.bfm_commands.specs.History.{natural_in}
use Rattle.bfm_commands.specs.Causes.{is_outside}

-- a number that is in the range is the value
natural_within-some : (least greatest : ℕ) (b : Bool) (n v : ℕ) → ok_or (cond b (Some n) None) OutOfLimit ≡ Ok v → n ≡ v
natural_within-some least greatest true n v e = cc
natural_within-some least greatest false n v e = absurd (cc)

natural_in-limited : (least greatest : ℕ) (o : Option ℤ) (v : ℕ) → limited_value least greatest o ≡ Ok v → natural_in o ≡ Some v
natural_in-limited least greatest None v e = absurd (cc)
natural_in-limited least greatest (Some (pos n)) v e = ap Some (natural_within-some least greatest (nat_le least n && nat_le n greatest) n v e)
natural_in-limited least greatest (Some (negsuc n)) v e = absurd (cc)

pub natural_in-value : (rest : List ℕ) (least greatest v : ℕ) → value_of rest least greatest ≡ Ok v → natural_in (value_number rest) ≡ Some v
unfolding value_of
natural_in-value rest least greatest v e = natural_in-limited least greatest (value_number rest) v e

-- by what follows, the value of a command is ill formed, out of its range, or right
pub data IsRead (rest : List ℕ) (least greatest : ℕ) (r : Result ℕ Cause) : Type 0 where
  ill_formed : is_none (value_number rest) ≡ true → r ≡ Err BadLine → IsRead rest least greatest r
  out_of_range : is_none (value_number rest) ≡ false → is_outside least greatest (value_number rest) ≡ true → r ≡ Err OutOfLimit → IsRead rest least greatest r
  right : (v : ℕ) → is_none (value_number rest) ≡ false → is_outside least greatest (value_number rest) ≡ false → r ≡ Ok v → IsRead rest least greatest r

pub value_of-read : (rest : List ℕ) (least greatest : ℕ) → IsRead rest least greatest (value_of rest least greatest)
unfolding value_of
value_of-read rest least greatest = by_number (value_number rest) refl
  where
    by_within : (n : ℤ) (w : Option ℕ) → value_number rest ≡ Some n → natural_within least greatest n ≡ w → IsRead rest least greatest (limited_value least greatest (value_number rest))
    by_within n None e f = out_of_range (ap is_none e) (ap (is_outside least greatest) e ∙ ap is_none f) (ap (limited_value least greatest) e ∙ ap (λ w. ok_or w OutOfLimit) f)
    by_within n (Some v) e f = right v (ap is_none e) (ap (is_outside least greatest) e ∙ ap is_none f) (ap (limited_value least greatest) e ∙ ap (λ w. ok_or w OutOfLimit) f)

    by_number : (o : Option ℤ) → value_number rest ≡ o → IsRead rest least greatest (limited_value least greatest (value_number rest))
    by_number None e = ill_formed (ap is_none e) (ap (limited_value least greatest) e)
    by_number (Some n) e = by_within n (natural_within least greatest n) e refl
