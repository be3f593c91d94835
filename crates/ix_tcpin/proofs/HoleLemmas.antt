-- What is cut out of a body and held over numbers stands for what is cut and held of the connection.
use Rattle.std.proofs.Common.{◌≡◌, ℕ, suc, ◌+◌, ◌-◌, ◌%◌, ◌^◌, ◌<◌, ◌≤◌, Bool, List, [], ◌∷◌, length, take, drop, arith, refl, ap, sym, ◌∙◌, inl, inr, length-take, length-drop}
use Rattle.std.specs.Prelude.{nat_lt, nat_le, ◌&&◌, ◌||◌, ◌==◌, min, map, insert}
use Rattle.std.specs.List.{list_all}
use Rattle.std.proofs.lemmas.Bool.{cases_Bool}
use Rattle.std.proofs.lemmas.List.{drop_min, take_min}
use Rattle.std.proofs.lemmas.Grind.{common_steps}
use Rattle.ix_base.specs.declared.segment.Seg.{Seg}
use Rattle.ix_base.specs.Sequence.{number, ahead, past_of, behind_of}
use Rattle.ix_tcpdef.specs.Connection.{seq_of}
use Rattle.ix_tcpdef.specs.Body.{octets, is_apart, held_among}
use Rattle.ix_tcpdef.specs.Needs.{EndsBy, IsFramed}
use Rattle.ix_tcpdef.specs.Sound.{RisesFrom}
use Rattle.ix_tcpdef.specs.declared.types.Connection.{Connection}
use Rattle.ix_tcpdef.specs.declared.types.HeldHead.{HeldHead}
use Rattle.ix_tcpdef.specs.declared.types.HeldSegment.{HeldSegment}
use Rattle.ix_tcpdef.specs.declared.types.Octets.{Octets}
use Rattle.ix_tcpdef.specs.Stands.{head_of}
use Rattle.ix_tcpin.proofs.PositionLemmas.{counts_ahead, goes_on}
use Rattle.ix_tcpin.specs.declared.text.Octets.{Octets as Places}
use Rattle.ix_tcpin.specs.Text.{octets_in, is_beside, place_among, head_held}

-- ## The octets in the window
-- p: their places in the body; o: the octets at their position
pub record IsCut (window rcv distance : ℕ) (seg : Seg) (p : Places) (o : Octets) : Type 0 where
  pub past : p.past ≡ distance
  pub at : o.at ≡ rcv + p.past
  pub from : o.from ≡ seg.head.at + p.from
  pub bytes : o.bytes ≡ take (p.to - p.from) (drop p.from seg.body)
  pub len : length o.bytes ≡ p.to - p.from
  pub order : p.from ≤ p.to
  pub within : p.to ≤ seg.head.len
  pub whole : o.whole ≡ p.whole
  pub ends : p.from < p.to → p.whole ≡ (p.to == seg.head.len)
  pub reach : p.from < p.to → p.past + (p.to - p.from) ≤ window

-- they reach the body's end exactly where none was cut off behind them
ends_as : (window past behind len : ℕ) → min behind len < min behind len + min (window - past) (len - min behind len) → nat_le (len + past) (window + behind) ≡ (min behind len + min (window - past) (len - min behind len) == len)
ends_as window past behind len some =
    elim (cases_Bool (nat_le (len + past) (window + behind))) [
      | inl all ↦
          let fits : len + past ≤ window + behind = grind (arith, common_steps, all) in
          let same : min behind len + min (window - past) (len - min behind len) ≡ len = omega arith in
          grind (arith, common_steps, all, same)
      | inr part ↦
          let over : window + behind < len + past = grind (arith, common_steps, part) in
          let less : min behind len + min (window - past) (len - min behind len) < len = omega arith in
          grind (arith, common_steps, part, less)
    ]

pub octets-cut : (window rcv : ℕ) (w : Connection) (seg : Seg) → IsFramed seg → IsCut window rcv (past_of (seq_of w seg.head)) seg (octets_in window (seq_of w seg.head) seg.head.len) (octets rcv window (seq_of w seg.head) seg.head.at seg.body)
unfolding octets_in octets
octets-cut window rcv w seg framed = by_place (past_of (seq_of w seg.head)) (behind_of (seq_of w seg.head))
  where
    by_place : (p b : ℕ) → IsCut window rcv p seg (record { past = p; from = min b seg.head.len; to = min b seg.head.len + min (window - p) (seg.head.len - min b seg.head.len); whole = nat_le (seg.head.len + p) (window + b) }) (record { at = rcv + p; from = seg.head.at + min b (length seg.body); bytes = take (window - p) (drop b seg.body); whole = nat_le (length seg.body + p) (window + b) })
    by_place p b =
        let len : length seg.body ≡ seg.head.len = framed.len in
        let n : ℕ = min (window - p) (seg.head.len - min b seg.head.len) in
        let count : min b seg.head.len + n - min b seg.head.len ≡ n = omega arith in
        let rest : length (drop b seg.body) ≡ length seg.body - b = length-drop b seg.body in
        let cut : length (take (window - p) (drop b seg.body)) ≡ min (window - p) (length (drop b seg.body)) = length-take (window - p) (drop b seg.body) in
        let same : min (window - p) (length (drop b seg.body)) ≡ n = omega (arith, rest, len) in
        let place : drop (min b seg.head.len) seg.body ≡ drop b seg.body = ap (λ (m : ℕ). drop (min b m) seg.body) (sym len) ∙ drop_min b seg.body in
        record {
          past = refl;
          at = refl;
          from = ap (λ (m : ℕ). seg.head.at + min b m) len;
          bytes = sym (ap (λ (m : ℕ). take m (drop (min b seg.head.len) seg.body)) count ∙ ap (take n) place ∙ ap (λ (m : ℕ). take m (drop b seg.body)) (sym same) ∙ take_min (window - p) (drop b seg.body));
          len = cut ∙ same ∙ sym count;
          order = omega arith;
          within = omega arith;
          whole = ap (λ (m : ℕ). nat_le (m + p) (window + b)) len;
          ends = λ some. ends_as window p b seg.head.len some;
          reach = λ (some : min b seg.head.len < min b seg.head.len + n). omega arith;
        }

-- ## Beside what is held
first_test : (rcv past n at : ℕ) → rcv ≤ at → nat_le (past + n) (at - rcv) ≡ nat_le (rcv + past + n) at
first_test rcv past n at low =
    elim (cases_Bool (nat_le (past + n) (at - rcv))) [ inl yes_le ↦ grind (arith, common_steps, yes_le) | inr no_le ↦ grind (arith, common_steps, no_le) ]

last_test : (rcv past at len : ℕ) → rcv ≤ at → nat_le (at - rcv + len) past ≡ nat_le (at + len) (rcv + past)
last_test rcv past at len low =
    elim (cases_Bool (nat_le (at - rcv + len) past)) [ inl yes_le ↦ grind (arith, common_steps, yes_le) | inr no_le ↦ grind (arith, common_steps, no_le) ]

beside-apart : (irs rcv : ℕ) (p : Places) (o : Octets) (s : HeldSegment) → o.at ≡ rcv + p.past → length o.bytes ≡ p.to - p.from → rcv ≤ s.at → s.at + length s.bytes ≤ rcv + 65535 → is_beside (number irs rcv) p (head_of irs s) ≡ is_apart o s
beside-apart irs rcv p o s at len low end =
    let far : s.at < rcv + 2 ^ 32 = omega arith in
    rw (counts_ahead irs rcv s.at low far, at, len)
    (ap (λ (a : Bool). a || nat_le (s.at - rcv + length s.bytes) p.past) (first_test rcv p.past (p.to - p.from) s.at low)
    ∙ ap (λ (b : Bool). nat_le (rcv + p.past + (p.to - p.from)) s.at || b) (last_test rcv p.past s.at (length s.bytes) low))

pub beside-all : (irs rcv low top : ℕ) (p : Places) (o : Octets) (ss : List HeldSegment) → o.at ≡ rcv + p.past → length o.bytes ≡ p.to - p.from → rcv ≤ low → top ≤ rcv + 65535 → RisesFrom low ss → EndsBy top ss → list_all (is_beside (number irs rcv) p) (map (head_of irs) ss) ≡ list_all (is_apart o) ss
beside-all irs rcv low top p o [] at len above far rising ends = refl
beside-all irs rcv low top p o (s ∷ ss) at len above far rising ends =
    let begin : rcv ≤ s.at = omega (arith, rising.0) in
    let end : s.at + length s.bytes ≤ rcv + 65535 = omega (arith, ends.0) in
    ap (λ (a : Bool). a && list_all (is_beside (number irs rcv) p) (map (head_of irs) ss)) (beside-apart irs rcv p o s at len begin end)
    ∙ ap (λ (b : Bool). is_apart o s && b) (beside-all irs rcv (s.at + length s.bytes) top p o ss at len (omega arith) far rising.2 ends.1)

-- ## Among what is held
insert_next : (m : HeldHead) (ms : List HeldHead) (k : ℕ) (x : HeldHead) → insert (m ∷ ms) (1 + k) x ≡ m ∷ insert ms k x
insert_next m ms k x = let e : 1 + k ≡ suc k = omega arith in rw e refl

pub place_test : (irs rcv past at : ℕ) → rcv ≤ at → at < rcv + 2 ^ 32 → nat_lt past (ahead (number irs rcv) (number irs at)) ≡ nat_lt (rcv + past) at
place_test irs rcv past at low far =
    ap (nat_lt past) (counts_ahead irs rcv at low far)
    ∙ elim (cases_Bool (nat_lt past (at - rcv))) [ inl yes_lt ↦ grind (arith, common_steps, yes_lt) | inr no_lt ↦ grind (arith, common_steps, no_lt) ]

pub among : (irs rcv low top past : ℕ) (x : HeldHead) (new : HeldSegment) (ss : List HeldSegment) → new.at ≡ rcv + past → x ≡ head_of irs new → rcv ≤ low → top ≤ rcv + 65535 → RisesFrom low ss → EndsBy top ss → insert (map (head_of irs) ss) (place_among (number irs rcv) past (map (head_of irs) ss)) x ≡ map (head_of irs) (held_among new ss)
among irs rcv low top past x new [] at is above far rising ends = ap (λ (h : HeldHead). h ∷ []) is
among irs rcv low top past x new (s ∷ ss) at is above far rising ends =
    let begin : rcv ≤ s.at = omega (arith, rising.0) in
    let end : s.at < rcv + 2 ^ 32 = omega (arith, ends.0) in
    let test : nat_lt past (ahead (number irs rcv) (number irs s.at)) ≡ nat_lt new.at s.at = place_test irs rcv past s.at begin end ∙ ap (λ (a : ℕ). nat_lt a s.at) (sym at) in
    elim (cases_Bool (nat_lt new.at s.at)) [
      | inl before ↦ rw (test, before) (ap (λ (h : HeldHead). h ∷ head_of irs s ∷ map (head_of irs) ss) is)
      | inr behind ↦ rw (test, behind)
          (insert_next (head_of irs s) (map (head_of irs) ss) (place_among (number irs rcv) past (map (head_of irs) ss)) x
          ∙ ap (λ (l : List HeldHead). head_of irs s ∷ l) (among irs rcv (s.at + length s.bytes) top past x new ss at is (omega arith) far rising.2 ends.1))
    ]

-- the head of what is held
pub head-held : (irs rcv : ℕ) (p : Places) (new : HeldSegment) → new.at ≡ rcv + p.past → length new.bytes ≡ p.to - p.from → head_held (number irs rcv) p new.fin ≡ head_of irs new
head-held irs rcv p new at len =
    let number_is : (number irs rcv + p.past) % 2 ^ 32 ≡ number irs new.at = sym (goes_on irs rcv p.past) ∙ ap (number irs) (sym at) in
    ap (λ (a : ℕ). record { at = a; len = p.to - p.from; fin = new.fin }) number_is ∙ ap (λ (n : ℕ). record { at = number irs new.at; len = n; fin = new.fin }) (sym len)
