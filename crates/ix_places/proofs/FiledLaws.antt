-- What is filed for some order of timers and flushes is filed for that which lines tell.
use Rattle.std.proofs.Common.{◌≡◌, ℕ, suc, ◌+◌, ◌<◌, refl, sym, ap, ◌∙◌, subst, List, [], ◌∷◌, get_or, length, map, arith}
use Rattle.std.specs.Prelude.{Contains, Option, slice_index_or}
use Rattle.std.specs.List.{IsDistinct}
use Rattle.std.specs.List.Sorted.{IsPermutation, IsSortedByKey}
use Rattle.std.proofs.lemmas.List.{get_or-map, get_or_default, length-map}
use Rattle.std.proofs.lemmas.List.Sorted.{Contains-permutation, IsPermutation-map}
use mathlib.Core.Path.{fun_ext}
use Rattle.ix_base.specs.declared.frame.Local.{Local}
use Rattle.ix_groupdef.specs.declared.types.GroupRecord.{GroupRecord}
use Rattle.ix_pcap.specs.Written.{capture_bytes}
use Rattle.ix_playdef.specs.Order.{key_cmp, key_of, number_of, numbers_among, same_key, sent_of}
use Rattle.ix_playdef.specs.Replies.{IsOrder, Places, all_replies, by_opening, group_replies}
use Rattle.ix_playdef.specs.declared.order.Reply.{Reply}
use Rattle.ix_trace.specs.declared.sheet.Sheet.{Sheet}
use Rattle.ix_wire.specs.declared.entry.Entry.{Entry}
use Rattle.ix_fits.specs.Replies.{AreReplies, reply_file}
use Rattle.ix_places.specs.Filed.{AreFiled}
use Rattle.ix_places.specs.Told.{all_numbers, group_numbers, places_by, places_told, reply_with, told_number}
use Rattle.ix_places.specs.declared.turn.Turn.{Turn}
use Rattle.ix_places.proofs.Numbered.{distinct-replies}
use Rattle.ix_places.proofs.Placing.{number-is, told-order, told-sorted}
use Rattle.ix_places.proofs.Replaced.{all-moved, all-stand, among-placed, group-moved, map-placed, same-placed}
use Rattle.ix_places.proofs.ToldLaws.{told-placed}

-- ## Maps of lists
pub map-twice : {A B C : Type 0} (f : A → B) (g : B → C) (xs : List A) → map g (map f xs) ≡ map (λ x. g (f x)) xs
map-twice f g [] = refl
map-twice f g (x ∷ xs) = ap (λ ys. g (f x) ∷ ys) (map-twice f g xs)

map-among : {A B : Type 0} (f g : A → B) (xs : List A) → ((i : ℕ) (d : A) → i < length xs → f (get_or xs i d) ≡ g (get_or xs i d)) → map f xs ≡ map g xs
map-among f g [] each = refl
map-among {A = A} f g (x ∷ xs) each = ap (λ y. y ∷ map f xs) (each 0 x (omega arith)) ∙ ap (λ ys. g x ∷ ys) (map-among f g xs (λ i d lt. later i d (each (i + 1) d (omega (arith, lt)))))
  where
    later : (i : ℕ) (d : A) → f (get_or (x ∷ xs) (i + 1) d) ≡ g (get_or (x ∷ xs) (i + 1) d) → f (get_or xs i d) ≡ g (get_or xs i d)
    later i d e =
        let found : get_or (x ∷ xs) (i + 1) d ≡ get_or xs i d = ap (λ n. get_or (x ∷ xs) n d) (let one : i + 1 ≡ suc i = omega arith in one) in
        ap f (sym found) ∙ e ∙ ap g found

-- ## The numbers that all lines name
pub numbers-named : (places : Places) (local : Local) (records : List GroupRecord) (r : Sheet) (sorted : List Reply)
    → ((g : ℕ) (d : GroupRecord) → g < length records → group_numbers r g ≡ numbers_among sorted (group_replies places local g (slice_index_or records g d)))
    → all_numbers r records ≡ numbers_among sorted (all_replies places local records)
numbers-named places local records r sorted named =
    same-placed (λ g left. group_numbers r g) (λ g left. numbers_among sorted (group_replies places local g left)) 0 records
    (λ g d lt. subst (λ n. group_numbers r n ≡ numbers_among sorted (group_replies places local n (get_or records g d))) (let e : g ≡ 0 + g = omega arith in e) (named g d lt))
    ∙ map-placed (group_replies places local) (λ g left. numbers_among sorted (group_replies places local g left)) (λ (x : Reply). number_of sorted x.key) (λ g left. refl) 0 records

-- ## The places that lines tell
module _ (local : Local) (records : List GroupRecord) (r : Sheet) (places : Places) (sorted : List Reply)
    (are : AreReplies places local records sorted) (named : all_numbers r records ≡ numbers_among sorted (all_replies places local records)) (count : r.replies ≡ length sorted) where
  abbrev xs : List Reply
  xs = all_replies places local records

  abbrev told : Places
  told = places_by (told_number (numbers_among sorted xs) xs) r.replies

  pub told-is : places_told local records r ≡ told
  told-is =
      ap (λ ns. places_by (told_number ns (all_replies by_opening local records)) r.replies) named
      ∙ ap (λ ys. places_by (told_number (numbers_among sorted xs) ys) r.replies) (all-moved places by_opening local (λ entry group opening. refl) records)
      ∙ ap (λ (f : Turn → Option ℕ). places_by f r.replies) (fun_ext (told-placed by_opening (numbers_among sorted xs) xs))

  distinct : IsDistinct same_key sorted
  distinct = distinct-replies places local records sorted are.same

  pub told-is_order : IsOrder (places_told local records r)
  told-is_order = subst IsOrder (sym told-is) (told-order xs sorted r.replies are.same are.order distinct count)

  pub told-replies : IsOrder places → AreReplies (places_told local records r) local records (map (reply_with (places_told local records r)) sorted)
  told-replies order =
      subst (λ (p : Places). AreReplies p local records (map (reply_with p) sorted)) (sym told-is)
      (record {
        same =
            subst (λ ys. IsPermutation ys (map (reply_with told) sorted)) (sym (all-moved places told local (λ entry group opening. refl) records))
            (IsPermutation-map (reply_with told) xs sorted are.same);
        order = told-sorted xs sorted r.replies are.same are.order distinct count places order (all-stand places local order.taken records);
      })

-- ## The numbers stay
number-moved : (q : Places) (local : Local) (records : List GroupRecord) (sorted : List Reply) → IsSortedByKey key_of key_cmp sorted → IsDistinct same_key sorted
    → AreReplies q local records (map (reply_with q) sorted) → (x : Reply) → Contains sorted x → number_of (map (reply_with q) sorted) (reply_with q x).key ≡ number_of sorted x.key
number-moved q local records sorted up apart are x c =
    let moved : List Reply = map (reply_with q) sorted in
    let within : c.0 < length moved = omega (arith, length-map sorted (reply_with q), c.1) in
    let there : get_or moved c.0 (reply_with q x) ≡ reply_with q x = get_or-map (reply_with q) sorted c.0 x (reply_with q x) c.1 ∙ ap (reply_with q) c.2 in
    number-is moved are.order (distinct-replies q local records moved are.same) (reply_with q x) (c.0, within, there) ∙ sym (number-is sorted up apart x c)

group-numbers : (p q : Places) (local : Local) (records : List GroupRecord) (sorted : List Reply) → IsOrder q → AreReplies p local records sorted → AreReplies q local records (map (reply_with q) sorted)
    → (g : ℕ) (d : GroupRecord) → g < length records
    → numbers_among (map (reply_with q) sorted) (group_replies q local g (slice_index_or records g d)) ≡ numbers_among sorted (group_replies p local g (slice_index_or records g d))
group-numbers p q local records sorted order before after g d lt =
    let left : GroupRecord = slice_index_or records g d in
    let own : List Reply = group_replies p local g left in
    let moved : List Reply = map (reply_with q) sorted in
    ap (numbers_among moved) (group-moved p q local order.taken g left)
    ∙ map-twice (reply_with q) (λ (x : Reply). number_of moved x.key) own
    ∙ map-among (λ (x : Reply). number_of moved (reply_with q x).key) (λ (x : Reply). number_of sorted x.key) own
    (λ i e within.
    number-moved q local records sorted before.order (distinct-replies p local records sorted before.same) after (get_or own i e)
    (Contains-permutation (all_replies p local records) sorted (get_or own i e) before.same
    (among-placed (group_replies p local) 0 records g d (get_or own i e) lt
    (subst (λ n. Contains (group_replies p local n left) (get_or own i e)) (let same : g ≡ 0 + g = omega arith in same) (i, within, get_or_default own i (get_or own i e) e within)))))

-- ## The file stays
file-moved : (q : Places) (entries : List Entry) (sorted : List Reply) → reply_file entries (map (reply_with q) sorted) ≡ reply_file entries sorted
file-moved q entries sorted = ap capture_bytes (map-twice (reply_with q) (sent_of entries) sorted)

-- ## So what is filed stays filed
pub told-filed : (local : Local) (records : List GroupRecord) (entries : List Entry) (r : Sheet) (file : List ℕ) (places : Places) (sorted : List Reply) → AreFiled local records entries r file places sorted
    → AreFiled local records entries r file (places_told local records r) (map (reply_with (places_told local records r)) sorted)
told-filed local records entries r file places sorted filed =
    let q : Places = places_told local records r in
    let named : all_numbers r records ≡ numbers_among sorted (all_replies places local records) = numbers-named places local records r sorted filed.named in
    let order : IsOrder q = told-is_order local records r places sorted filed.replies named filed.count in
    let are : AreReplies q local records (map (reply_with q) sorted) = told-replies local records r places sorted filed.replies named filed.count filed.order in
    record {
      order = order;
      replies = are;
      file_is = filed.file_is ∙ sym (file-moved q entries sorted);
      named = λ g d lt. filed.named g d lt ∙ sym (group-numbers places q local records sorted order filed.replies are g d lt);
      once = filed.once;
      count = filed.count ∙ sym (length-map sorted (reply_with q));
    }
