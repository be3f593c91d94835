-- The n-th reply of a play has the number n.
use Rattle.std.proofs.Common.{◌≡◌, ℕ, ◌<◌, refl, sym, ap, ◌∙◌, true, false, true≢false, List, [], ◌∷◌, length, get_or, ext_get_or, map, arith, is_lt}
use Rattle.std.specs.List.{IsDistinct, range_with_len}
use Rattle.std.specs.List.Sorted.{IsPermutation, IsSortedByKey}
use Rattle.std.specs.Ordering.{is_eq, ordering_reverse}
use Rattle.std.specs.declared.cmp.Ordering.{Ordering}
use Rattle.std.specs.declared.cmp.Ordering.TheVariants.{Less, Equal, Greater}
use Rattle.std.proofs.lemmas.List.{get_or-map, get_or_default, length-map}
use Rattle.std.proofs.lemmas.List.FromFn.{get_or-range_with_len, length-range_with_len}
use Rattle.std.proofs.lemmas.Map.Keys.{apart_from_distinct, IsDistinct-IsPermutation}
use Rattle.ix_base.specs.declared.frame.Local.{Local}
use Rattle.ix_groupdef.specs.declared.types.GroupRecord.{GroupRecord}
use Rattle.ix_playdef.specs.contracts.order.ReplyKeyOrd.TheImpl.Laws.{total-law}
use Rattle.ix_playdef.specs.declared.order.Reply.{Reply}
use Rattle.ix_playdef.specs.declared.order.ReplyKey.{ReplyKey}
use Rattle.ix_playdef.specs.Order.{is_before, key_cmp, key_of, number_of, numbers_among, same_key}
use Rattle.ix_playdef.specs.Replies.{Places, all_replies}
use Rattle.ix_places.proofs.Distinct.{all-distinct}
use Rattle.ix_places.proofs.Keys.{counted, key-same, none-before}

-- ## Of two keys that differ one comes before the other
pub turned-cmp : (a b : ReplyKey) → key_cmp a b ≡ ordering_reverse (key_cmp b a)
turned-cmp a b = key-same a b ∙ total-law.antisymm a b ∙ ap ordering_reverse (sym (key-same b a))

equal-turned : (o : Ordering) → is_eq (ordering_reverse o) ≡ is_eq o
equal-turned Less = refl
equal-turned Equal = refl
equal-turned Greater = refl

same-turned : (r s : Reply) → same_key r s ≡ same_key s r
same-turned r s = ap is_eq (turned-cmp r.key s.key) ∙ equal-turned (key_cmp s.key r.key)

less-left : (o : Ordering) → is_lt (ordering_reverse o) ≡ false → is_eq o ≡ false → is_lt o ≡ true
less-left Less behind apart = refl
less-left Equal behind apart = absurd (true≢false apart)
less-left Greater behind apart = absurd (true≢false behind)

pub before-next : (r s : Reply) → is_before s.key r.key ≡ false → same_key r s ≡ false → is_before r.key s.key ≡ true
before-next r s behind apart = less-left (key_cmp r.key s.key) (ap is_lt (sym (turned-cmp s.key r.key)) ∙ behind) apart

-- ## So exactly those in front of a reply come before it
module _ (xs : List Reply) (up : IsSortedByKey key_of key_cmp xs) (apart : IsDistinct same_key xs) where
  pub number-at : (n : ℕ) (d : Reply) → n < length xs → number_of xs (get_or xs n d).key ≡ n
  number-at n d lt =
      let k : ReplyKey = (get_or xs n d).key in
      sym (counted (λ (r : Reply). is_before r.key k) xs n (omega arith) (
        (λ i e low less.
            ap (λ (r : Reply). is_before r.key k) (get_or_default xs i e d (omega arith))
            ∙ before-next (get_or xs i d) (get_or xs n d) (none-before xs up i n d (omega arith) lt) (apart_from_distinct same_key xs i n d apart less lt)),
        (λ i e low less. ap (λ (r : Reply). is_before r.key k) (get_or_default xs i e d less) ∙ none-before xs up n i d low less),
      ))

numbered : (xs : List Reply) → IsSortedByKey key_of key_cmp xs → IsDistinct same_key xs → numbers_among xs xs ≡ range_with_len 0 (length xs)
numbered [] up apart = refl
numbered (x ∷ xs) up apart =
    let ys : List Reply = x ∷ xs in
    let number : Reply → ℕ = λ r. number_of ys r.key in
    let long : length (map number ys) ≡ length ys = length-map ys number in
    ext_get_or 0 (map number ys) (range_with_len 0 (length ys)) (long ∙ sym (length-range_with_len 0 (length ys)))
    (λ n lt.
    let within : n < length ys = omega (arith, long, lt) in
    let there : get_or (range_with_len 0 (length ys)) n 0 ≡ n = omega (arith, get_or-range_with_len 0 (length ys) n 0 within) in
    get_or-map number ys n x 0 within ∙ number-at ys up apart n x within ∙ sym there)

-- ## The replies of a play, in whatever order timers and flushes are taken
pub distinct-replies : (places : Places) (local : Local) (records : List GroupRecord) (xs : List Reply) → IsPermutation (all_replies places local records) xs → IsDistinct same_key xs
distinct-replies places local records xs same = IsDistinct-IsPermutation same_key same-turned (all_replies places local records) xs same (all-distinct places local records)

pub numbered-replies : (places : Places) (local : Local) (records : List GroupRecord) (xs : List Reply) → IsPermutation (all_replies places local records) xs → IsSortedByKey key_of key_cmp xs
    → numbers_among xs xs ≡ range_with_len 0 (length xs)
numbered-replies places local records xs same up = numbered xs up (distinct-replies places local records xs same)
