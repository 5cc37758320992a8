-- Lists that are written entry by entry.
use Rattle.std.proofs.Common.{◌≡◌, ◌≢◌, ℕ, zero, suc, ◌+◌, ◌-◌, ◌<◌, ◌++◌, List, [], ◌∷◌, Some, slice_get, drop, codes, decimal, refl, ap, sym, ◌∙◌, subst, append_assoc, arith}
use Rattle.std.specs.List.{concat, flat_map, range_with_len}
use Rattle.std.specs.Fmt.{signed_decimal}
use Rattle.std.proofs.lemmas.Grind.{flat_map-append}
use Rattle.std.proofs.lemmas.Option.{get_or_from_slice_get}
use Rattle.bfm_base.specs.declared.place.P3.{P3}
use Rattle.bond_set.specs.BondSet.{ids_of, vectors_of}
use Rattle.bfm_writer.specs.declared.listing.Listing.{Listing}
use Rattle.bfm_writer.specs.declared.listing.Listing.TheVariants.{Empty, Begun}
use Rattle.bfm_base.specs.Account.{Account, TookPrefix}
use Rattle.bfm_writer.specs.Batch.{TookFirst}
use Rattle.bfm_writer.specs.Header.{listed, vector_line}
use Rattle.bfm_writer.specs.Listing.{behind, command_before, entries_of}
use Rattle.bfm_writer.proofs.BatchLemmas.{TookFirst-none, TookFirst-next, TookFirst-then, TookPrefix-next, TookPrefix-then}

-- no entries
pub entries_of-none : (listing : Listing) (command : List ℕ) → entries_of listing command [] ≡ []
entries_of-none Empty command = refl
entries_of-none Begun command = refl

-- entries that are there stand behind the command
pub entries_of-some : (listing : Listing) (command first : List ℕ) (byte : ℕ) (rest : List ℕ)
    → entries_of listing command (first ++ byte ∷ rest) ≡ command_before listing command ++ (first ++ byte ∷ rest)
entries_of-some Empty command [] byte rest = refl
entries_of-some Empty command (b ∷ first) byte rest = refl
entries_of-some Begun command [] byte rest = refl
entries_of-some Begun command (b ∷ first) byte rest = refl

pub behind-some : (listing : Listing) (first : List ℕ) (byte : ℕ) (rest : List ℕ) → behind listing (first ++ byte ∷ rest) ≡ Begun
behind-some listing [] byte rest = refl
behind-some listing (b ∷ first) byte rest = refl

-- entries, and further ones
pub entries_of-more : (listing : Listing) (command entries more : List ℕ)
    → entries_of listing command (entries ++ more) ≡ entries_of listing command entries ++ entries_of (behind listing entries) command more
entries_of-more Empty command [] more = refl
entries_of-more Empty command (b ∷ entries) more = sym (append_assoc command (b ∷ entries) more)
entries_of-more Begun command [] more = refl
entries_of-more Begun command (b ∷ entries) more = refl

pub behind-more : (listing : Listing) (entries more : List ℕ) → behind listing (entries ++ more) ≡ behind (behind listing entries) more
behind-more listing [] [] = refl
behind-more listing [] (b ∷ more) = refl
behind-more listing (b ∷ entries) [] = refl
behind-more listing (b ∷ entries) (c ∷ more) = refl

-- the numbers from k to below n
pub range_with_len-first : (k n : ℕ) → k < n → range_with_len k (n - k) ≡ k ∷ range_with_len (k + 1) (n - (k + 1))
range_with_len-first k n h =
    let e : n - k ≡ suc (n - (k + 1)) = omega arith in
    ap (range_with_len k) e

-- the lines of what the numbers from k to below n give
pub lines-first : {X : Type 0} (line : X → List ℕ) (f : ℕ → List X) (k n : ℕ) → k < n
    → flat_map line (flat_map f (range_with_len k (n - k))) ≡ flat_map line (f k) ++ flat_map line (flat_map f (range_with_len (k + 1) (n - (k + 1))))
lines-first line f k n h =
    ap (λ l. flat_map line (flat_map f l)) (range_with_len-first k n h) ∙ flat_map-append line (f k) (flat_map f (range_with_len (k + 1) (n - (k + 1))))

-- the text of an entry, and the command before it where that is due
entries_of-entry : (listing : Listing) (command before entry first : List ℕ) (byte : ℕ) (rest : List ℕ) → entry ≡ first ++ byte ∷ rest
    → before ++ entries_of listing command entry ≡ before ++ (command_before listing command ++ (first ++ byte ∷ rest))
entries_of-entry listing command before entry first byte rest is =
    ap (λ l. before ++ l) (ap (entries_of listing command) is ∙ entries_of-some listing command first byte rest)

-- the command and the entry are written
pub TookFirst-entry : (a b c : Account) (listing : Listing) (command before after entry left first : List ℕ) (byte : ℕ) (rest : List ℕ) → entry ≡ first ++ byte ∷ rest
    → TookFirst a b (before ++ command_before listing command) after → TookFirst b c (after ++ (first ++ byte ∷ rest)) left
    → TookFirst a c (before ++ entries_of listing command entry) left
TookFirst-entry a b c listing command before after entry left first byte rest is h k =
    TookFirst-then a b c _ _ left (TookFirst-next a a b _ _ before (command_before listing command) (first ++ byte ∷ rest) after (TookFirst-none a _)
    (entries_of-entry listing command before entry first byte rest is) h) k

-- a call failed in the entry
pub TookPrefix-entry : (a b c : Account) (listing : Listing) (command before after entry first : List ℕ) (byte : ℕ) (rest : List ℕ) → entry ≡ first ++ byte ∷ rest
    → TookFirst a b (before ++ command_before listing command) after → TookPrefix b c (after ++ (first ++ byte ∷ rest))
    → TookPrefix a c (before ++ entries_of listing command entry)
TookPrefix-entry a b c listing command before after entry first byte rest is h k =
    TookPrefix-then a b c _ _ (TookFirst-next a a b _ _ before (command_before listing command) (first ++ byte ∷ rest) after (TookFirst-none a _)
    (entries_of-entry listing command before entry first byte rest is) h) k

-- a call failed in the command
pub TookPrefix-command : (a b : Account) (listing : Listing) (command before entry first : List ℕ) (byte : ℕ) (rest : List ℕ) → entry ≡ first ++ byte ∷ rest
    → TookPrefix a b (before ++ command_before listing command) → TookPrefix a b (before ++ entries_of listing command entry)
TookPrefix-command a b listing command before entry first byte rest is h =
    TookPrefix-next a a b _ _ before (command_before listing command) (first ++ byte ∷ rest) (TookFirst-none a _)
    (entries_of-entry listing command before entry first byte rest is) h

-- the text of entries, and of further ones
entries_of-next : (listing : Listing) (command before all entries more : List ℕ) → all ≡ entries ++ more
    → before ++ entries_of listing command all ≡ before ++ (entries_of listing command entries ++ entries_of (behind listing entries) command more)
entries_of-next listing command before all entries more is = ap (λ l. before ++ l) (ap (entries_of listing command) is ∙ entries_of-more listing command entries more)

-- Of the entries that are left, the first ones are written.
pub TookFirst-entries : (a b c : Account) (bytes : List ℕ) (listing now : Listing) (command before all entries more after : List ℕ) → all ≡ entries ++ more → now ≡ behind listing entries
    → TookFirst a b bytes (before ++ entries_of listing command all) → TookFirst b c (before ++ entries_of listing command entries) after
    → TookFirst a c bytes (after ++ entries_of now command more)
TookFirst-entries a b c bytes listing now command before all entries more after is same h k =
    subst (λ l. TookFirst a c bytes (after ++ entries_of l command more)) (sym same)
    (TookFirst-next a b c bytes _ before (entries_of listing command entries) (entries_of (behind listing entries) command more) after h
    (entries_of-next listing command before all entries more is) k)

-- a call failed in these
pub TookPrefix-entries : (a b c : Account) (bytes : List ℕ) (listing : Listing) (command before all entries more : List ℕ) → all ≡ entries ++ more
    → TookFirst a b bytes (before ++ entries_of listing command all) → TookPrefix b c (before ++ entries_of listing command entries)
    → TookPrefix a c bytes
TookPrefix-entries a b c bytes listing command before all entries more is h k =
    TookPrefix-next a b c bytes _ before (entries_of listing command entries) (entries_of (behind listing entries) command more) h
    (entries_of-next listing command before all entries more is) k

-- a list whose first line is there
pub listed-line : (command first : List ℕ) (byte : ℕ) (rest more : List ℕ) → listed command ((first ++ byte ∷ rest) ++ more) ≡ command ++ ((first ++ byte ∷ rest) ++ more)
listed-line command [] byte rest more = refl
listed-line command (b ∷ first) byte rest more = refl

-- a list whose first entry is there
listed-some : (command first : List ℕ) (byte : ℕ) (rest end more : List ℕ)
    → listed command (((first ++ byte ∷ rest) ++ end) ++ more) ≡ command ++ (((first ++ byte ∷ rest) ++ end) ++ more)
listed-some command [] byte rest end more = refl
listed-some command (b ∷ first) byte rest end more = refl

pub listed-vectors : (command : List ℕ) (set : List (P3 × ℕ)) → set ≢ [] → listed command (flat_map vector_line set) ≡ command ++ flat_map vector_line set
listed-vectors command [] some = absurd (some refl)
listed-vectors command (e ∷ es) some =
    listed-some command (signed_decimal e.0.x) 32 (concat (signed_decimal e.0.y ∷ codes " " ∷ signed_decimal e.0.z ∷ [])) (58 ∷ (decimal e.1 ++ codes "\n")) (flat_map vector_line es)

-- the vector and the identifier at a place of a set
pub drop-pair : (set : List (P3 × ℕ)) (k : ℕ) (v : P3) (id : ℕ) → slice_get (vectors_of set) k ≡ Some v → slice_get (ids_of set) k ≡ Some id
    → drop k set ≡ (v, id) ∷ drop (k + 1) set
drop-pair [] k v id hv hid = absurd (grind arith)
drop-pair (e ∷ es) zero v id hv hid =
    let vector : e.0 ≡ v = get_or_from_slice_get (vectors_of (e ∷ es)) 0 v v hv in
    let identifier : e.1 ≡ id = get_or_from_slice_get (ids_of (e ∷ es)) 0 id id hid in
    ap (λ p. (p, e.1) ∷ es) vector ∙ ap (λ n. (v, n) ∷ es) identifier
drop-pair (e ∷ es) (suc k) v id hv hid =
    let same : suc (k + 1) ≡ suc k + 1 = omega arith in
    drop-pair es k v id hv hid ∙ ap (λ n. (v, id) ∷ drop n (e ∷ es)) same
