-- A stream that grows at its end keeps what is seen of it.
use Rattle.std.proofs.Common.{◌≡◌, ℕ, zero, suc, ◌≤◌, ◌<◌, ◌+◌, ◌-◌, refl, sym, ap, ◌∙◌, subst, Bool, true, false, List, [], ◌∷◌, ◌++◌, length, get_or, take, drop, arith, min}
use Rattle.std.specs.Prelude.{nat_eq, if◌then◌else◌, Some, None, unwrap_or}
use Rattle.std.specs.List.{AllByRecursion, starts_with}
use Rattle.std.proofs.lemmas.Bool.Decides.{Decides-eqb}
use Rattle.std.proofs.lemmas.List.{drop-append-le, take-append-le, length-drop, length-append, drop-drop, drop_all, drop_more, take_all}
use Rattle.std.proofs.lemmas.Slice.Eq.{starts_is}
use Rattle.ix_base.specs.declared.id.WireNo.{WireNo}
use Rattle.ix_base.specs.declared.segment.Seg.{Seg}
use Rattle.ix_tcpdef.specs.declared.types.Ask.{Ask}
use Rattle.ix_tcpdef.specs.declared.types.Ask.TheVariants as asks
use Rattle.ix_tcpdef.specs.declared.types.Input.{Input}
use Rattle.ix_tcpdef.specs.declared.types.Input.TheVariants as inputs
use Rattle.ix_tcpdef.specs.declared.types.Output.{Output}
use Rattle.ix_groupdef.specs.declared.types.JournalEntry.{JournalEntry}
use Rattle.ix_groupdef.specs.declared.journal.Kept.{Kept}
use Rattle.ix_groupdef.specs.declared.journal.Kept.TheVariants as kept
use Rattle.ix_groupdef.specs.declared.journal.Stored.{Stored}
use Rattle.ix_groupdef.specs.Life.{segment_in, first_of, segment_named}
use Rattle.ix_groupdef.specs.Journal.{sendv_of, is_sendv, range, input_of, seen, entries_of, segment_kept, segment_stored, done_in, taken_by, left_of, left_from, given_new, stored_for, stored_from, stored_of, place_of, IsWithin, IsStored}

range-append : (s t : List ℕ) (from to : ℕ) → from ≤ to → to ≤ length s → range (s ++ t) from to ≡ range s from to
range-append s t from to a b =
    ap (take (to - from)) (drop-append-le from s t (omega (arith, a, b)))
    ∙ take-append-le (to - from) (drop from s) t (let n : length (drop from s) ≡ length s - from = length-drop from s in omega (arith, a, b, n))

input-append : (s t : List ℕ) (k : Kept) → IsWithin (length s) k → input_of (s ++ t) k ≡ input_of s k
input-append s t (kept.Whole i) w = refl
input-append s t (kept.Sent from to) w = ap sendv_of (range-append s t from to w.0 w.1)

entries-append : (s t : List ℕ) (es : List Stored) → AllByRecursion (λ e. IsWithin (length s) e.kept) es → entries_of (s ++ t) es ≡ entries_of s es
entries-append s t [] w = refl
entries-append s t (e ∷ es) w =
    ap (λ (i : Input). record { input = i; clock = e.clock; core = e.core; outputs = e.outputs } ∷ entries_of (s ++ t) es) (input-append s t e.kept w.0)
    ∙ ap (λ xs. seen s e ∷ xs) (entries-append s t es w.1)

within-more : (n m : ℕ) (k : Kept) → n ≤ m → IsWithin n k → IsWithin m k
within-more n m (kept.Whole i) le w = tt
within-more n m (kept.Sent from to) le w = (w.0, omega (arith, le, w.1))

ranges-more : (n m : ℕ) (es : List Stored) → n ≤ m → AllByRecursion (λ e. IsWithin n e.kept) es → AllByRecursion (λ e. IsWithin m e.kept) es
ranges-more n m [] le w = tt
ranges-more n m (e ∷ es) le w = (within-more n m e.kept le w.0, ranges-more n m es le w.1)

ranges-push : (n : ℕ) (es : List Stored) (e : Stored) → AllByRecursion (λ e. IsWithin n e.kept) es → IsWithin n e.kept → AllByRecursion (λ e. IsWithin n e.kept) (es ++ e ∷ [])
ranges-push n [] e w k = (k, tt)
ranges-push n (d ∷ es) e w k = (w.0, ranges-push n es e w.1 k)

pub within-at : (n : ℕ) (es : List Stored) (i : ℕ) (d : Stored) → i < length es → AllByRecursion (λ e. IsWithin n e.kept) es → IsWithin n (get_or es i d).kept
within-at n [] i d lt w = absurd (omega arith)
within-at n (e ∷ es) zero d lt w = w.0
within-at n (e ∷ es) (suc i) d lt w = within-at n es i d (omega arith) w.1

pub entries-push : (s : List ℕ) (es : List Stored) (e : Stored) → entries_of s (es ++ e ∷ []) ≡ entries_of s es ++ seen s e ∷ []
entries-push s [] e = refl
entries-push s (d ∷ es) e = ap (λ xs. seen s d ∷ xs) (entries-push s es e)

pub entries-at : (s : List ℕ) (es : List Stored) (i : ℕ) (d : Stored) (f : JournalEntry) → i < length es → get_or (entries_of s es) i f ≡ seen s (get_or es i d)
entries-at s [] i d f lt = absurd (omega arith)
entries-at s (e ∷ es) zero d f lt = refl
entries-at s (e ∷ es) (suc i) d f lt = entries-at s es i d f (omega arith)

pub entries-length : (s : List ℕ) (es : List Stored) → length (entries_of s es) ≡ length es
entries-length s [] = refl
entries-length s (e ∷ es) = omega (arith, entries-length s es)

left-push : (before : List ℕ) (es : List JournalEntry) (e : JournalEntry) → left_from before (es ++ e ∷ []) ≡ left_of (left_from before es) e.input e.outputs
left-push before [] e = refl
left-push before (d ∷ es) e = left-push (left_of before d.input d.outputs) es e

stored-push : (before : List ℕ) (es : List JournalEntry) (e : JournalEntry) → stored_from before (es ++ e ∷ []) ≡ stored_from before es + stored_for (left_from before es) e.input
stored-push before [] e = omega arith
stored-push before (d ∷ es) e = omega (arith, stored-push (left_of before d.input d.outputs) es e)

-- ## An entry with its whole input
left-other : (before : List ℕ) (i : Input) (os : List Output) → is_sendv i ≡ false → left_of before i os ≡ before
left-other before (inputs.Call a) os e = by_ask a e
  where
    by_ask : (a : Ask) → is_sendv (inputs.Call a) ≡ false → left_of before (inputs.Call a) os ≡ before
    by_ask (asks.Sendv bytes) e = absurd (cc)
    by_ask _ e = refl
left-other before _ os e = refl

stored-other : (left : List ℕ) (i : Input) → is_sendv i ≡ false → stored_for left i ≡ 0
stored-other left (inputs.Call a) e = by_ask a e
  where
    by_ask : (a : Ask) → is_sendv (inputs.Call a) ≡ false → stored_for left (inputs.Call a) ≡ 0
    by_ask (asks.Sendv bytes) e = absurd (cc)
    by_ask _ e = refl
stored-other left _ e = refl

pub other-stored : (s : List ℕ) (es : List Stored) (left : ℕ) (e : Stored) (i : Input) → e.kept ≡ kept.Whole i → is_sendv i ≡ false → IsStored s es left → IsStored s (es ++ e ∷ []) left
other-stored s es left e i is other x =
    let whole : (seen s e).input ≡ i = ap (input_of s) is in
    record {
      ranges = ranges-push (length s) es e x.ranges (subst (IsWithin (length s)) (sym is) tt);
      tail = x.tail ∙ sym (left-other (left_from [] (entries_of s es)) i e.outputs other) ∙ ap (λ j. left_of (left_from [] (entries_of s es)) j e.outputs) (sym whole)
          ∙ sym (left-push [] (entries_of s es) (seen s e)) ∙ ap (left_from []) (sym (entries-push s es e));
      within = x.within;
      stored =
          let none : stored_for (left_from [] (entries_of s es)) (seen s e).input ≡ 0 = ap (stored_for (left_from [] (entries_of s es))) whole ∙ stored-other (left_from [] (entries_of s es)) i other in
          let more : stored_of (entries_of s (es ++ e ∷ [])) ≡ stored_of (entries_of s es) + stored_for (left_from [] (entries_of s es)) (seen s e).input = ap stored_of (entries-push s es e) ∙ stored-push [] (entries_of s es) (seen s e) in
          omega (arith, none, more, x.stored);
    }

-- ## A call to send
-- where its bytes begin in the stream, and what of them is new
pub record Begins (s : List ℕ) (left : ℕ) (bytes : List ℕ) (from : ℕ) : Type 0 where
  pub within : from ≤ length s
  pub most : length s - from ≤ length bytes
  pub joined : bytes ≡ drop from s ++ drop (length s - from) bytes
  pub new : given_new (drop left s) bytes ≡ length bytes - (length s - from)

starts : (xs ys : List ℕ) → starts_with nat_eq xs ys ≡ true → xs ≡ ys ++ drop (length ys) xs
starts xs ys e = (starts_is Decides-eqb xs ys (starts_with nat_eq xs ys) refl).0 e

pub begins : (s : List ℕ) (left : ℕ) (bytes : List ℕ) → left ≤ length s → Begins s left bytes (place_of s left bytes)
begins s left bytes le = by_test (starts_with nat_eq bytes (drop left s)) refl
  where
    n : length (drop left s) ≡ length s - left
    n = length-drop left s

    by_test : (b : Bool) → starts_with nat_eq bytes (drop left s) ≡ b → Begins s left bytes (if b then left else length s)
    by_test true e =
        let j : bytes ≡ drop left s ++ drop (length (drop left s)) bytes = starts bytes (drop left s) e in
        let m : length bytes ≡ length (drop left s) + length (drop (length (drop left s)) bytes) = ap length j ∙ length-append (drop left s) (drop (length (drop left s)) bytes) in
        record {
          within = le;
          most = omega (arith, m, n);
          joined = j ∙ ap (λ k. drop left s ++ drop k bytes) n;
          new = ap (λ (b : Bool). if b then length bytes - length (drop left s) else length bytes) e ∙ ap (λ k. length bytes - k) n;
        }
    by_test false e =
        record {
          within = omega arith;
          most = omega arith;
          joined = ap (λ xs. xs ++ bytes) (sym (drop_all (length s) s (omega arith))) ∙ ap (λ k. drop (length s) s ++ drop k bytes) (let z : 0 ≡ length s - length s = omega arith in z);
          new = ap (λ (b : Bool). if b then length bytes - length (drop left s) else length bytes) e ∙ (let z : length bytes ≡ length bytes - (length s - length s) = omega arith in z);
        }

-- a slice from a place on
pub rest_of : (xs : List ℕ) (k : ℕ) → take (length xs - k) (drop k xs) ≡ drop k xs
rest_of xs k = take_all (length xs - k) (drop k xs) (let n : length (drop k xs) ≡ length xs - k = length-drop k xs in omega (arith, n))

drop-min : (n : ℕ) (xs : List ℕ) → drop (min n (length xs)) xs ≡ drop n xs
drop-min zero xs = ap (λ k. drop k xs) (let z : min 0 (length xs) ≡ 0 = omega arith in z)
drop-min (suc n) [] = drop_all (min (suc n) 0) [] (omega arith)
drop-min (suc n) (x ∷ xs) = ap (λ k. drop k (x ∷ xs)) (let z : min (suc n) (length (x ∷ xs)) ≡ suc (min n (length xs)) = omega arith in z) ∙ drop-min n xs

module _ (s bytes : List ℕ) (es : List Stored) (left from to taken next : ℕ) (e : Stored) (b : Begins s left bytes from) (is : e.kept ≡ kept.Sent from to)
    (its_to : to ≡ length (s ++ drop (length s - from) bytes)) (takes : taken ≡ taken_by e.outputs) (its_next : next ≡ min (from + taken) to) (x : IsStored s es left) where
  abbrev more : List ℕ
  more = drop (length s - from) bytes

  grown : length (s ++ more) ≡ length s + length more
  grown = length-append s more

  rest : drop from (s ++ more) ≡ bytes
  rest = drop-append-le from s more b.within ∙ sym b.joined

  its_range : range (s ++ more) from to ≡ bytes
  its_range =
      take_all (to - from) (drop from (s ++ more)) (let n : length (drop from (s ++ more)) ≡ length (s ++ more) - from = length-drop from (s ++ more) in omega (arith, n, its_to)) ∙ rest

  its_input : input_of (s ++ more) e.kept ≡ sendv_of bytes
  its_input = ap (input_of (s ++ more)) is ∙ ap sendv_of its_range

  pub sendv-seen : entries_of (s ++ more) (es ++ e ∷ []) ≡ entries_of s es ++ record { input = sendv_of bytes; clock = e.clock; core = e.core; outputs = e.outputs } ∷ []
  sendv-seen =
      entries-push (s ++ more) es e ∙ ap (λ xs. xs ++ seen (s ++ more) e ∷ []) (entries-append s more es x.ranges)
      ∙ ap (λ i. entries_of s es ++ record { input = i; clock = e.clock; core = e.core; outputs = e.outputs } ∷ []) its_input

  its_left : drop next (s ++ more) ≡ drop taken bytes
  its_left =
      ap (λ k. drop k (s ++ more)) (its_next ∙ ap (min (from + taken)) its_to) ∙ drop-min (from + taken) (s ++ more) ∙ sym (drop-drop taken from (s ++ more)) ∙ ap (drop taken) rest

  pub sendv-stored : IsStored (s ++ more) (es ++ e ∷ []) next
  sendv-stored =
      let all : List JournalEntry = entries_of s es in
      let new : JournalEntry = record { input = sendv_of bytes; clock = e.clock; core = e.core; outputs = e.outputs } in
      record {
        ranges = ranges-push (length (s ++ more)) es e (ranges-more (length s) (length (s ++ more)) es (omega (arith, grown)) x.ranges)
            (subst (IsWithin (length (s ++ more))) (sym is) (omega (arith, grown, its_to, b.within), omega (arith, its_to)));
        tail = its_left ∙ ap (λ k. drop k bytes) takes ∙ sym (left-push [] all new) ∙ ap (left_from []) (sym sendv-seen);
        within = omega (arith, its_next, its_to);
        stored =
            let m : length more ≡ length bytes - (length s - from) = length-drop (length s - from) bytes in
            let n : stored_for (left_from [] all) (sendv_of bytes) ≡ length bytes - (length s - from) = ap (λ l. given_new l bytes) (sym x.tail) ∙ b.new in
            let k : stored_of (entries_of (s ++ more) (es ++ e ∷ [])) ≡ stored_of all + stored_for (left_from [] all) (sendv_of bytes) = ap stored_of sendv-seen ∙ stored-push [] all new in
            omega (arith, m, n, k, grown, x.stored);
      }

-- ## The segment with a wire number
named-one : (s : List ℕ) (w : WireNo) (k : Kept) → segment_in w (input_of s k) ≡ segment_kept w k
named-one s w (kept.Whole i) = refl
named-one s w (kept.Sent from to) = refl

pub named_stored : (s : List ℕ) (w : WireNo) (es : List Stored) → segment_named w (entries_of s es) ≡ segment_stored w es
named_stored s w [] = refl
named_stored s w (e ∷ es) =
    ap (λ o. first_of o (segment_named w (entries_of s es))) (named-one s w e.kept) ∙ ap (first_of (segment_kept w e.kept)) (named_stored s w es)

stored-drop : (w : WireNo) (es : List Stored) (i : ℕ) (d : Stored) → i < length es
    → segment_stored w (drop i es) ≡ first_of (segment_kept w (get_or es i d).kept) (segment_stored w (drop (i + 1) es))
stored-drop w es i d h = ap (segment_stored w) (drop_more es i d h)

pub kept-next : (w : WireNo) (es : List Stored) (i : ℕ) (d : Stored) → i < length es → None ≡ segment_kept w (get_or es i d).kept
    → segment_stored w (drop i es) ≡ segment_stored w (drop (i + 1) es)
kept-next w es i d h e = stored-drop w es i d h ∙ ap (λ o. first_of o (segment_stored w (drop (i + 1) es))) (sym e)

pub kept-here : (w : WireNo) (es : List Stored) (i : ℕ) (d : Stored) (seg : Seg) → i < length es → Some seg ≡ segment_kept w (get_or es i d).kept
    → segment_stored w (drop i es) ≡ Some seg
kept-here w es i d seg h e = stored-drop w es i d h ∙ ap (λ o. first_of o (segment_stored w (drop (i + 1) es))) (sym e)

pub kept-none : (w : WireNo) (es : List Stored) (i : ℕ) → length es ≤ i → segment_stored w (drop i es) ≡ None
kept-none w es i h = ap (segment_stored w) (drop_all i es h)

pub ruleset for_kept = (kept-next, kept-here, kept-none)

-- ## How many bytes were taken
pub taken-next : (os : List Output) (i : ℕ) (d : Output) → i < length os → None ≡ done_in (get_or os i d) → taken_by (drop i os) ≡ taken_by (drop (i + 1) os)
taken-next os i d h e = ap taken_by (drop_more os i d h) ∙ ap (λ o. unwrap_or o (taken_by (drop (i + 1) os))) (sym e)

pub taken-here : (os : List Output) (i : ℕ) (d : Output) (n : ℕ) → i < length os → Some n ≡ done_in (get_or os i d) → taken_by (drop i os) ≡ n
taken-here os i d n h e = ap taken_by (drop_more os i d h) ∙ ap (λ o. unwrap_or o (taken_by (drop (i + 1) os))) (sym e)

pub taken-none : (os : List Output) (i : ℕ) → length os ≤ i → taken_by (drop i os) ≡ 0
taken-none os i h = ap taken_by (drop_all i os h)

pub ruleset for_taken = (taken-next, taken-here, taken-none)
