-- Whether replies are filed is decided by the order that lines tell.
use Rattle.std.proofs.Common.{◌≡◌, ℕ, zero, suc, ◌+◌, ◌<◌, refl, sym, ap, ◌∙◌, subst, Bool, List, [], ◌∷◌, ◌++◌, ext_get_or, get_or, length, map, arith}
use Rattle.std.specs.Prelude.{All, Contains, slice_index_or, ◌&&◌, if◌then◌else◌}
use Rattle.std.specs.Bool.{Decides}
use Rattle.std.specs.List.{IsDistinct}
use Rattle.std.specs.List.Sorted.{IsPermutation, IsSortedByKey}
use Rattle.std.proofs.lemmas.Bool.{and_from, and_parts}
use Rattle.std.proofs.lemmas.List.{get_or_default, length-map}
use Rattle.std.proofs.lemmas.List.Elements.{All-map, All-same}
use Rattle.std.proofs.lemmas.List.Sorted.{All-permutation, Contains-permutation, IsPermutation-sym, IsPermutation-trans, length_permutation, sum_by-IsPermutation}
use Rattle.ix_base.specs.declared.frame.Local.{Local}
use Rattle.ix_groupdef.specs.declared.types.GroupRecord.{GroupRecord}
use Rattle.ix_playdef.specs.Order.{is_before, key_cmp, key_of, number_of, numbers_among, same_key}
use Rattle.ix_playdef.specs.Placed.{placed}
use Rattle.ix_playdef.specs.Replies.{IsOrder, IsShort, Places, all_replies, by_opening, group_replies}
use Rattle.ix_playdef.specs.declared.order.Reply.{Reply}
use Rattle.ix_playdef.specs.declared.order.ReplyKey.{ReplyKey}
use Rattle.ix_trace.specs.declared.sheet.Sheet.{Sheet}
use Rattle.ix_wire.specs.declared.entry.Entry.{Entry}
use Rattle.ix_fits.specs.Replies.{AreReplies, NameEachOnce, reply_file}
use Rattle.ix_places.specs.Filed.{AreAsMany, AreFiled, AreSomehowFiled}
use Rattle.ix_places.specs.Told.{all_numbers, group_numbers, key_with, places_by, places_told, reply_with, told_number}
use Rattle.ix_places.proofs.FiledLaws.{map-twice, numbers-named, told-filed, told-is_order}
use Rattle.ix_places.proofs.Numbered.{distinct-replies, number-at}
use Rattle.ix_places.proofs.Placing.{number-is}
use Rattle.ix_places.proofs.Replaced.{all-moved, group-moved, map-placed}

-- ## Replies in order are in one order
empty : (zs : List Reply) → length zs ≡ 0 → zs ≡ []
empty [] none = refl
empty (z ∷ zs) none = absurd (omega (arith, none))

module _ (xs ys : List Reply) (same : IsPermutation xs ys) (up : IsSortedByKey key_of key_cmp xs) (high : IsSortedByKey key_of key_cmp ys) (apart : IsDistinct same_key xs) (other : IsDistinct same_key ys) where
  as-many-before : (k : ReplyKey) → number_of ys k ≡ number_of xs k
  as-many-before k = sum_by-IsPermutation (λ (r : Reply). if is_before r.key k then 1 else 0) xs ys same

  one-place : (i : ℕ) (d : Reply) → i < length xs → get_or xs i d ≡ get_or ys i d
  one-place i d lt =
      let x : Reply = get_or xs i d in
      let c : Contains ys x = Contains-permutation xs ys x same (i, lt, get_or_default xs i x d lt) in
      let at : c.0 ≡ i = sym (number-is ys high other x c) ∙ as-many-before x.key ∙ number-at xs up apart i d lt in
      sym c.2 ∙ get_or_default ys c.0 x d c.1 ∙ ap (λ n. get_or ys n d) at

  pub one-order : xs ≡ ys
  one-order = by_list xs refl
    where
      by_list : (zs : List Reply) → xs ≡ zs → xs ≡ ys
      by_list [] e = e ∙ sym (empty ys (length_permutation xs ys same ∙ ap length e))
      by_list (z ∷ zs) e = ext_get_or z xs ys (sym (length_permutation xs ys same)) (λ i lt. one-place i z lt)

-- ## Lists that are put together of equally long ones
parted : {A : Type 0} (a c b d : List A) → length a ≡ length c → a ++ b ≡ c ++ d → (a ≡ c) × (b ≡ d)
parted [] [] b d long e = (refl, e)
parted [] (y ∷ c) b d long e = absurd (omega (arith, long))
parted (x ∷ a) [] b d long e = absurd (omega (arith, long))
parted {A = A} (x ∷ a) (y ∷ c) b d long e =
    let rest = parted a c b d (omega (arith, long)) (ap tail e) in
    (ap (λ z. z ∷ a) (ap (head x) e) ∙ ap (λ zs. y ∷ zs) rest.0, rest.1)
  where
    tail : List A → List A
    tail [] = []
    tail (z ∷ zs) = zs

    head : A → List A → A
    head z [] = z
    head z (v ∷ zs) = v

parts-same : {A B : Type 0} (f g : ℕ → A → List B) (at : ℕ) (xs : List A) → ((i : ℕ) (d : A) → i < length xs → length (f (at + i) (get_or xs i d)) ≡ length (g (at + i) (get_or xs i d)))
    → placed f at xs ≡ placed g at xs → (i : ℕ) (d : A) → i < length xs → f (at + i) (get_or xs i d) ≡ g (at + i) (get_or xs i d)
parts-same f g at [] long e i d lt = absurd (omega (arith, lt))
parts-same {A = A} {B = B} f g at (x ∷ xs) long e i d lt = by_place (parts-same f g (at + 1) xs later (here e).1) i lt
  where
    here : placed f at (x ∷ xs) ≡ placed g at (x ∷ xs) → (f at x ≡ g at x) × (placed f (at + 1) xs ≡ placed g (at + 1) xs)
    here same =
        parted (f at x) (g at x) (placed f (at + 1) xs) (placed g (at + 1) xs)
        (subst (λ n. length (f n x) ≡ length (g n x)) (let zero_more : at + 0 ≡ at = omega arith in zero_more) (long 0 x (omega arith))) same

    later : (k : ℕ) (y : A) → k < length xs → length (f ((at + 1) + k) (get_or xs k y)) ≡ length (g ((at + 1) + k) (get_or xs k y))
    later k y below =
        subst (λ n. length (f n (get_or xs k y)) ≡ length (g n (get_or xs k y))) (let one_more : at + suc k ≡ (at + 1) + k = omega arith in one_more) (long (suc k) y (omega (arith, below)))

    by_place : ((k : ℕ) (y : A) → k < length xs → f ((at + 1) + k) (get_or xs k y) ≡ g ((at + 1) + k) (get_or xs k y)) → (k : ℕ) → k < suc (length xs)
        → f (at + k) (get_or (x ∷ xs) k d) ≡ g (at + k) (get_or (x ∷ xs) k d)
    by_place rest zero below = subst (λ n. f n x ≡ g n x) (let zero_more : at ≡ at + 0 = omega arith in zero_more) (here e).0
    by_place rest (suc k) below =
        subst (λ n. f n (get_or xs k d) ≡ g n (get_or xs k d)) (let one_more : (at + 1) + k ≡ at + suc k = omega arith in one_more) (rest k d (omega (arith, below)))

-- ## As many numbers as replies
as-many : (p q : Places) (local : Local) (group : ℕ) (left : GroupRecord) → IsOrder p → length (group_replies p local group left) ≡ length (group_replies q local group left)
as-many p q local group left order = ap length (group-moved q p local order.taken group left) ∙ length-map (group_replies q local group left) (reply_with p)

pub many-from_filed : (local : Local) (records : List GroupRecord) (entries : List Entry) (r : Sheet) (file : List ℕ) → AreSomehowFiled local records entries r file → AreAsMany local records r
many-from_filed local records entries r file some =
    record {
      each = λ g d lt.
          let left : GroupRecord = slice_index_or records g d in
          sym (as-many some.places by_opening local g left some.filed.order)
          ∙ sym (ap length (some.filed.named g d lt) ∙ length-map (group_replies some.places local g left) (λ (x : Reply). number_of some.replies x.key));
    }

-- ## What the lines tell decides
module _ (local : Local) (records : List GroupRecord) (entries : List Entry) (r : Sheet) (file : List ℕ) (sorted : List Reply) (many : AreAsMany local records r)
    (same : IsPermutation (map (reply_with (places_told local records r)) (all_replies by_opening local records)) sorted) (up : IsSortedByKey key_of key_cmp sorted) where
  abbrev told : Places
  told = places_told local records r

  abbrev opened : List Reply
  opened = all_replies by_opening local records

  replies-told : all_replies told local records ≡ map (reply_with told) opened
  replies-told = all-moved by_opening told local (λ entry group opening. refl) records

  are : AreReplies told local records sorted
  are = record { same = subst (λ ys. IsPermutation ys sorted) (sym replies-told) same; order = up }

  -- the numbers of the replies, by their keys
  by-keys : map (number_of sorted) (map (λ (x : Reply). key_with told x.key) opened) ≡ numbers_among sorted (all_replies told local records)
  by-keys =
      map-twice (λ (x : Reply). key_with told x.key) (number_of sorted) opened
      ∙ sym (map-twice (reply_with told) (λ (x : Reply). number_of sorted x.key) opened)
      ∙ ap (numbers_among sorted) (sym replies-told)

  group-named : all_numbers r records ≡ numbers_among sorted (all_replies told local records) → IsOrder told → (g : ℕ) (d : GroupRecord) → g < length records
      → group_numbers r g ≡ numbers_among sorted (group_replies told local g (slice_index_or records g d))
  group-named named order g d lt =
      subst (λ n. group_numbers r n ≡ numbers_among sorted (group_replies told local n (get_or records g d))) (let e : 0 + g ≡ g = omega arith in e)
      (parts-same (λ n left. group_numbers r n) (λ n left. numbers_among sorted (group_replies told local n left)) 0 records
      (λ i e below.
      let left : GroupRecord = get_or records i e in
      subst (λ n. length (group_numbers r n) ≡ length (numbers_among sorted (group_replies told local n left))) (let f : i ≡ 0 + i = omega arith in f)
      (sym (many.each i e below) ∙ sym (as-many told by_opening local i left order) ∙ sym (length-map (group_replies told local i left) (λ (x : Reply). number_of sorted x.key))))
      (named ∙ sym (map-placed (group_replies told local) (λ n left. numbers_among sorted (group_replies told local n left)) (λ (x : Reply). number_of sorted x.key) (λ n left. refl) 0 records))
      g d lt)

  filed : all_numbers r records ≡ map (number_of sorted) (map (λ (x : Reply). key_with told x.key) opened) → r.replies ≡ length sorted → NameEachOnce r.strays r.conns r.replies
      → file ≡ reply_file entries sorted → AreSomehowFiled local records entries r file
  filed named counted once written =
      let numbers : all_numbers r records ≡ numbers_among sorted (all_replies told local records) = named ∙ by-keys in
      let order : IsOrder told = told-is_order local records r told sorted are numbers counted in
      record {
        places = told;
        replies = sorted;
        filed = record { order = order; replies = are; file_is = written; named = group-named numbers order; once = once; count = counted };
      }

  -- sorted by what lines tell, the replies are these
  sorted-told : (some : AreSomehowFiled local records entries r file) → map (reply_with told) some.replies ≡ sorted
  sorted-told some =
      let after : AreFiled local records entries r file told (map (reply_with told) some.replies) = told-filed local records entries r file some.places some.replies some.filed in
      let moved : List Reply = map (reply_with told) some.replies in
      let both : IsPermutation moved sorted = IsPermutation-trans moved (all_replies told local records) sorted (IsPermutation-sym (all_replies told local records) moved after.replies.same) are.same in
      one-order moved sorted both after.replies.order up (distinct-replies told local records moved after.replies.same) (distinct-replies told local records sorted are.same)

  told-again : (some : AreSomehowFiled local records entries r file) → AreFiled local records entries r file told sorted
  told-again some = subst (AreFiled local records entries r file told) (sorted-told some) (told-filed local records entries r file some.places some.replies some.filed)

  pub decided : (named counted once written : Bool)
      → Decides named (all_numbers r records ≡ map (number_of sorted) (map (λ (x : Reply). key_with told x.key) opened)) → Decides counted (r.replies ≡ length sorted)
      → Decides once (NameEachOnce r.strays r.conns r.replies) → Decides written (file ≡ reply_file entries sorted)
      → Decides ((named && counted) && (once && written)) (AreSomehowFiled local records entries r file)
  decided named counted once written by_name by_count by_once by_file = (
    λ e.
        let front = and_parts named counted (and_parts (named && counted) (once && written) e).0 in
        let back = and_parts once written (and_parts (named && counted) (once && written) e).1 in
        filed (by_name.0 front.0) (by_count.0 front.1) (by_once.0 back.0) (by_file.0 back.1),
    λ some.
        let after : AreFiled local records entries r file told sorted = told-again some in
        and_from (named && counted) (once && written)
        (and_from named counted (by_name.1 (numbers-named told local records r sorted after.named ∙ sym by-keys)) (by_count.1 after.count))
        (and_from once written (by_once.1 after.once) (by_file.1 after.file_is)),
  )

-- the same of lists that are those of the records
pub told-decided : (replies changed sorted : List Reply) (numbers : List ℕ) (keys : List ReplyKey) (entries : List Entry) (r : Sheet) (file : List ℕ) (named counted once written : Bool)
    → keys ≡ map (λ (x : Reply). key_with (places_by (told_number numbers replies) r.replies) x.key) replies
    → changed ≡ map (reply_with (places_by (told_number numbers replies) r.replies)) replies → IsPermutation changed sorted → IsSortedByKey key_of key_cmp sorted
    → Decides named (numbers ≡ map (number_of sorted) keys) → Decides counted (r.replies ≡ length sorted) → Decides once (NameEachOnce r.strays r.conns r.replies)
    → Decides written (file ≡ reply_file entries sorted) → (local : Local) (records : List GroupRecord) → replies ≡ all_replies by_opening local records → numbers ≡ all_numbers r records
    → AreAsMany local records r → Decides ((named && counted) && (once && written)) (AreSomehowFiled local records entries r file)
told-decided replies changed sorted numbers keys entries r file named counted once written keyed is same up by_name by_count by_once by_file local records own numbered many =
    let told : List ℕ → List Reply → Places = λ ns ys. places_by (told_number ns ys) r.replies in
    let opened : List Reply = all_replies by_opening local records in
    let keys_are : keys ≡ map (λ (x : Reply). key_with (places_told local records r) x.key) opened =
    keyed
    ∙ ap (λ (ns : List ℕ). map (λ (x : Reply). key_with (told ns replies) x.key) replies) numbered
    ∙ ap (λ (ys : List Reply). map (λ (x : Reply). key_with (told (all_numbers r records) ys) x.key) ys) own in
    let changed_is : changed ≡ map (reply_with (places_told local records r)) opened =
    is
    ∙ ap (λ (ns : List ℕ). map (reply_with (told ns replies)) replies) numbered
    ∙ ap (λ (ys : List Reply). map (reply_with (told (all_numbers r records) ys)) ys) own in
    decided local records entries r file sorted many (subst (λ ys. IsPermutation ys sorted) changed_is same) up named counted once written
    (subst (λ ks. Decides named (all_numbers r records ≡ map (number_of sorted) ks)) keys_are (subst (λ ns. Decides named (ns ≡ map (number_of sorted) keys)) numbered by_name))
    by_count by_once by_file

pub keys-long : (f : Reply → ReplyKey) (xs : List Reply) (keys : List ReplyKey) → keys ≡ map f xs → length keys ≡ length xs
keys-long f xs keys is = ap length is ∙ length-map xs f

pub changed-short : (places : Places) (xs changed sorted : List Reply) → changed ≡ map (reply_with places) xs → IsPermutation changed sorted → All IsShort xs → All IsShort sorted
changed-short places xs changed sorted is same short = All-permutation IsShort changed sorted same (All-same IsShort changed (map (reply_with places) xs) is (All-map IsShort (reply_with places) xs short))

pub keyed : (replies slice : List Reply) (numbers ns : List ℕ) (keys ks : List ReplyKey) (end : ℕ) → slice ≡ replies → ns ≡ numbers → ks ≡ keys
    → keys ≡ map (λ (x : Reply). key_with (places_by (told_number ns slice) end) x.key) slice → ks ≡ map (λ (x : Reply). key_with (places_by (told_number numbers replies) end) x.key) replies
keyed replies slice numbers ns keys ks end a b d is =
    d ∙ is
    ∙ ap (λ ms. map (λ (x : Reply). key_with (places_by (told_number ms slice) end) x.key) slice) b
    ∙ ap (λ ys. map (λ (x : Reply). key_with (places_by (told_number numbers ys) end) x.key) ys) a

pub named-of : (named : Bool) (sorted slice : List Reply) (numbers ns : List ℕ) (keys ks : List ReplyKey) → slice ≡ sorted → ns ≡ numbers → ks ≡ keys → Decides named (ns ≡ map (number_of slice) ks)
    → Decides named (numbers ≡ map (number_of sorted) keys)
named-of named sorted slice numbers ns keys ks a b d decides =
    subst (λ xs. Decides named (numbers ≡ map (number_of xs) keys)) a
    (subst (λ ms. Decides named (ms ≡ map (number_of slice) keys)) b (subst (λ js. Decides named (ns ≡ map (number_of slice) js)) d decides))
