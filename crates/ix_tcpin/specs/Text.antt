-- The body and the FIN of a segment over numbers (RFC 9293, section 3.10.7.4, seventh and eighth check).
use Rattle.std.specs.Prelude.{ℕ, ◌+◌, ◌-◌, ◌%◌, ◌^◌, Bool, true, false, nat_lt, nat_le, ◌&&◌, ◌||◌, ◌==◌, not, if◌then◌else◌, List, [], ◌∷◌, length, insert, map, min, Some, ℤ, pos, ◌+ℤ◌}
use Rattle.std.specs.List.{list_all}
use Rattle.ix_base.specs.declared.segment.SegHead.{SegHead}
use Rattle.ix_base.specs.Sequence.{ahead, is_past, past_of, behind_of, is_next}
use Rattle.ix_base.specs.Flags.{has_flag}
use Rattle.ix_tcpdef.specs.Ticks.{later}
use Rattle.ix_tcpdef.specs.Body.{takes_body}
use Rattle.ix_tcpdef.specs.declared.types.Cfg.{Cfg}
use Rattle.ix_tcpdef.specs.declared.types.HeldHead.{HeldHead}
use Rattle.ix_tcpdef.specs.declared.types.State.{State}
use Rattle.ix_tcpdef.specs.declared.types.State.TheVariants as st
use Rattle.ix_tcpdef.specs.declared.types.Tcb.{Tcb}
use Rattle.ix_tcpdef.specs.declared.types.Told.TheVariants as told
use Rattle.ix_base.specs.declared.segment.TheConstants.{FIN}
use Rattle.ix_tcpin.specs.declared.text.Octets.{Octets}
use Rattle.ix_tcpin.specs.declared.verdict.HeldUse.{HeldUse}
use Rattle.ix_tcpin.specs.declared.verdict.HeldUse.TheVariants as uses
use Rattle.ix_tcpin.specs.declared.verdict.Take.{Take}
use Rattle.ix_tcpin.specs.declared.verdict.Take.TheVariants as takes
use Rattle.ix_tcpin.specs.Heads.{window, ack_head}
use Rattle.ix_tcpin.specs.Work.{Work, work, on, keep, let_go, replies, tells}
use Rattle.ix_tcpin.specs.Checks.{distance}

-- ## Seventh: process the segment text
-- the octets of a body of this length that lie in the window, where its first stands at this distance from RCV.NXT
unfoldable pub octets_in : ℕ → ℤ → ℕ → Octets
octets_in window distance len =
    record {
      past = past_of distance;
      from = min (behind_of distance) len;
      to = min (behind_of distance) len + min (window - past_of distance) (len - min (behind_of distance) len);
      whole = nat_le (len + past_of distance) (window + behind_of distance);
    }

-- so many octets are taken; those of a connection that the application closed are not counted
abbrev pub moved : ℕ → Tcb → Tcb
moved n t =
    record t { rcv_nxt = (t.rcv_nxt + n) % 2 ^ 32; ack_owed = true; unread = if t.shut then t.unread else min (t.unread + n) (2 ^ 32 - 1) }

-- the number behind a held segment's octets
abbrev pub end_of : HeldHead → ℕ
end_of s = (s.at + s.len) % 2 ^ 32

abbrev pub holds : List HeldHead → Tcb → Tcb
holds held t = record t { held = record { items = held } }

-- what is made of held segments: the numbers, their uses, and whether a FIN stands behind the octets that were taken last
pub record Filled : Type 0 where
  pub numbers : Tcb
  pub uses : List HeldUse
  pub fin : Bool

abbrev pub first : HeldUse → Filled → Filled
first u f = record f { uses = u ∷ f.uses }

-- what is left of a held segment is delivered, or thrown away where the application closed the connection
abbrev pub rest_use : Tcb → HeldHead → HeldUse
rest_use t s = if t.shut then uses.Drop else uses.Deliver (min (ahead s.at t.rcv_nxt) s.len)

-- The held segments that begin at or before RCV.NXT are taken, by rising position. One whose octets end at or before it is dropped with its
-- FIN.
unfoldable pub filled_numbers : List HeldHead → Bool → Tcb → Filled
filled_numbers [] fin t = record { numbers = t; uses = []; fin = fin }
filled_numbers (s ∷ rest) fin t =
    if is_past t.rcv_nxt s.at
    then record { numbers = t; uses = map keep (s ∷ rest); fin = fin }
    else if not (is_past t.rcv_nxt (end_of s))
    then first uses.Drop (filled_numbers rest fin (holds rest t))
    else first (rest_use t s) (filled_numbers rest s.fin (moved (ahead t.rcv_nxt (end_of s)) (holds rest t)))

abbrev pub taken_body : Tcb → Octets → Take
taken_body t o = if t.shut then takes.Discard o.from o.to else takes.Deliver o.from o.to

abbrev pub fills : Octets → Filled → Work → Work
fills o f k = work f.numbers (record k.verdict { take = taken_body k.numbers o; held = record { items = f.uses } })

-- whether the octets share none with a held segment; both are counted from RCV.NXT
abbrev pub is_beside : ℕ → Octets → HeldHead → Bool
is_beside rcv o s = nat_le (o.past + (o.to - o.from)) (ahead rcv s.at) || nat_le (ahead rcv s.at + s.len) o.past

-- how many of the held segments begin before octets that are so far past RCV.NXT
abbrev pub place_among : ℕ → ℕ → List HeldHead → ℕ
place_among rcv past [] = 0
place_among rcv past (s ∷ rest) = if nat_lt past (ahead rcv s.at) then 0 else 1 + place_among rcv past rest

abbrev pub head_held : ℕ → Octets → Bool → HeldHead
head_held rcv o fin = record { at = (rcv + o.past) % 2 ^ 32; len = o.to - o.from; fin = fin }

-- Octets behind a hole are held with their FIN, where fewer than eight segments are held and they overlap none of them.
unfoldable pub waiting_part : Octets → Bool → Work → Work
waiting_part o fin k =
    if nat_lt (length k.numbers.held.items) 8 && list_all (is_beside k.numbers.rcv_nxt o) k.numbers.held.items
    then work
    (holds (insert k.numbers.held.items (place_among k.numbers.rcv_nxt o.past k.numbers.held.items) (head_held k.numbers.rcv_nxt o fin)) k.numbers)
    (record k.verdict { take = takes.Hold o.from o.to })
    else k

-- the work then, and whether a FIN stands at RCV.NXT
pub record Texted : Type 0 where
  pub work : Work
  pub stands : Bool

abbrev pub texted : Work → Bool → Texted
texted k stands = record { work = k; stands = stands }

unfoldable pub received_part : Cfg → Octets → Bool → Work → Texted
received_part cfg o fin k =
    if o.past == 0
    then (let f : Filled = filled_numbers k.numbers.held.items fin (moved (o.to - o.from) k.numbers) in
    texted (fills o f k) f.fin)
    else texted (replies (waiting_part o fin k) (ack_head cfg k.numbers)) false

-- whether the segment's own FIN stands at RCV.NXT, behind its body
abbrev pub stands_next : SegHead → Tcb → Bool
stands_next h t = has_flag h.flags FIN && is_next (distance t h +ℤ pos h.len)

unfoldable pub body_part : Cfg → SegHead → Work → Texted
body_part cfg h k =
    if not (takes_body k.numbers.state)
    then texted k (stands_next h k.numbers)
    else (let o : Octets = octets_in (window cfg k.numbers) (distance k.numbers h) h.len in
    if o.to == o.from
    then texted k (stands_next h k.numbers)
    else received_part cfg o (has_flag h.flags FIN && o.whole) k)

-- ## Eighth: check the FIN bit
abbrev pub behind_fin : Tcb → Tcb
behind_fin t = record t { rcv_nxt = (t.rcv_nxt + 1) % 2 ^ 32; ack_owed = true; held = record { items = [] } }

abbrev pub fin_part_in : State → Cfg → ℕ → Work → Work
fin_part_in st.Established cfg now k = tells (on k (record k.numbers { state = st.CloseWait })) told.RecvEnd
fin_part_in st.FinWait1 cfg now k = on k (record k.numbers { state = st.Closing })
fin_part_in st.FinWait2 cfg now k = on k (record k.numbers { state = st.TimeWait; deadline = Some (later now cfg.time_wait) })
fin_part_in _ cfg now k = k

unfoldable pub fin_part : Cfg → ℕ → Work → Work
fin_part cfg now k = fin_part_in k.numbers.state cfg now (work (behind_fin k.numbers) (let_go k.verdict))

unfoldable pub finished_part : Cfg → SegHead → ℕ → Texted → Work
finished_part cfg h now b =
    if b.stands
    then fin_part cfg now b.work
    else if has_flag h.flags FIN && (h.len == 0) && is_past b.work.numbers.rcv_nxt h.seq
    then replies b.work (ack_head cfg b.work.numbers)
    else b.work

unfoldable pub text_part : Cfg → SegHead → ℕ → Work → Work
text_part cfg h now k = finished_part cfg h now (body_part cfg h k)
