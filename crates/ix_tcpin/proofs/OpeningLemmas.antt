-- How a connection opens over numbers stands for how it opens.
use Rattle.std.proofs.Common.{◌≡◌, ℕ, ◌-◌, ◌≤◌, Bool, true, false, if◌then◌else◌, List, [], ◌∷◌, length, arith, refl, ap, sym, subst, ◌∙◌}
use Rattle.std.specs.Prelude.{◌&&◌, ◌==◌, not, map, min, Some}
use Rattle.ix_base.specs.declared.id.WireNo.{WireNo}
use Rattle.ix_base.specs.declared.segment.Seg.{Seg}
use Rattle.ix_base.specs.declared.segment.SegHead.{SegHead}
use Rattle.ix_base.specs.Sequence.{number}
use Rattle.ix_base.specs.Flags.{has_flag}
use Rattle.ix_tcpdef.specs.Connection.{acked_data, is_closed, is_listen, is_syn_sent, on, gives, ended}
use Rattle.ix_tcpdef.specs.Frames.{reset_frame, syn_ack_frame}
use Rattle.ix_tcpdef.specs.Opening.{opens, passive, opening, connected, syn_sent}
use Rattle.ix_tcpdef.specs.Sound.{IsKept, is_unknown, HasOpened}
use Rattle.ix_tcpdef.specs.declared.types.Cfg.{Cfg}
use Rattle.ix_tcpdef.specs.declared.types.State.TheVariants as st
use Rattle.ix_tcpdef.specs.declared.types.Connection.{Connection}
use Rattle.ix_tcpdef.specs.declared.types.HeldHead.{HeldHead}
use Rattle.ix_tcpdef.specs.declared.types.Job.{Job}
use Rattle.ix_tcpdef.specs.declared.types.Output.TheVariants as outputs
use Rattle.ix_tcpdef.specs.declared.types.Told.TheVariants as told
use Rattle.ix_base.specs.declared.segment.TheConstants.{ACK, RST, SYN}
use Rattle.ix_tcpdef.specs.Stands.{tcb_of, head_of}
use Rattle.ix_tcpin.specs.declared.verdict.Verdict.{Verdict}
use Rattle.ix_tcpin.specs.Heads.{reset_head, syn_ack_head}
use Rattle.ix_tcpin.specs.Work as at_work
use Rattle.ix_tcpin.specs.Work.{work, replies, announces, ends}
use Rattle.ix_tcpin.specs.Opening.{passive_numbers, opening_part, connected_numbers, syn_sent_part}
use Rattle.ix_tcpin.proofs.Relation.{so_far, at, Agrees, Says, keep-pieces, keep-held, lives, said, says-answered, says-nothing, says-ended}

-- a step that begins
abbrev pub start : Connection → Job
start w = record { connection = w; outputs = [] }

pub begins : (w : Connection) → is_closed w.state ≡ false → Agrees w (start w) []
begins w alive =
    record { same = record { pieces = refl; held = refl; rcv = refl; irs = refl; accepted = refl }; first = refl; last = refl; before = alive; alive = alive }

-- ## LISTEN
same-passive : (cfg : Cfg) (h : SegHead) (now : ℕ) (w : Connection) → w.sent ≡ [] → w.held ≡ [] → passive_numbers cfg h now (tcb_of w) ≡ tcb_of (passive cfg h now w)
same-passive cfg h now w sent held =
    let none : length w.sent ≡ 0 = ap length sent in
    let queue : length w.sent - min (w.una - 1) (length w.sent) ≡ length w.sent - min (0 - 1) (length w.sent) = omega arith in
    let heads : map (head_of w.irs) w.held ≡ map (head_of h.seq) w.held = ap (map (head_of w.irs)) held ∙ sym (ap (map (head_of h.seq)) held) in
    ap (λ (q : ℕ). record (passive_numbers cfg h now (tcb_of w)) { queued = q }) queue
    ∙ ap (λ (l : List HeldHead). record (tcb_of (passive cfg h now w)) { held = record { items = l } }) heads

says-opened : (w : Connection) (n : WireNo) (seg : Seg) (cfg : Cfg) (now : ℕ) → w.sent ≡ [] → w.held ≡ [] → Says w n seg (replies (at_work.on (at w (start w) []) (passive_numbers cfg seg.head now (tcb_of w))) (syn_ack_head cfg (passive_numbers cfg seg.head now (tcb_of w)))) (gives (on (start w) (passive cfg seg.head now w)) (syn_ack_frame cfg (passive cfg seg.head now w)))
says-opened w n seg cfg now sent held =
    let none : length w.sent ≡ 0 = ap length sent in
    let c : Connection = passive cfg seg.head now w in
    let count : acked_data w - acked_data w ≡ acked_data c - acked_data w = omega arith in
    subst (λ t. Says w n seg (replies (work t (so_far w (acked_data w - acked_data w) [])) (syn_ack_head cfg t)) (gives (on (start w) c) (syn_ack_frame cfg c))) (sym (same-passive cfg seg.head now w sent held))
    (said w n seg c (record (so_far w (acked_data w - acked_data w) []) { reply = Some (syn_ack_head cfg (tcb_of c)) }) [] refl (keep-pieces w.accepted w.irs w.held) (keep-held w.irs w.held) refl refl refl count (lives w c refl))

pub says-opening : (cfg : Cfg) (now : ℕ) (w : Connection) (n : WireNo) (seg : Seg) → w.state ≡ st.Listen → IsKept cfg w → HasOpened w → Says w n seg (opening_part cfg seg.head now (at w (start w) [])) (opening cfg seg.head now (start w))
unfolding opening_part opening
says-opening cfg now w n seg is k opened = by_test (opens seg.head)
  where
    by_test : (b : Bool) → Says w n seg (if b then replies (at_work.on (at w (start w) []) (passive_numbers cfg seg.head now (tcb_of w))) (syn_ack_head cfg (passive_numbers cfg seg.head now (tcb_of w))) else at w (start w) []) (if b then gives (on (start w) (passive cfg seg.head now w)) (syn_ack_frame cfg (passive cfg seg.head now w)) else start w)
    by_test true = says-opened w n seg cfg now (opened.listening (ap is_listen is)) (k.sound.untouched (ap is_unknown is))
    by_test false = says-nothing w n seg (start w) [] (begins w (ap is_closed is))

-- ## SYN-SENT
same-connected : (cfg : Cfg) (h : SegHead) (w : Connection) → w.una ≤ 1 → w.held ≡ [] → connected_numbers cfg h (tcb_of w) ≡ tcb_of (connected cfg h w)
same-connected cfg h w first held =
    let queue : length w.sent - min (w.una - 1) (length w.sent) ≡ length w.sent - min (1 - 1) (length w.sent) = omega arith in
    let heads : map (head_of w.irs) w.held ≡ map (head_of h.seq) w.held = ap (map (head_of w.irs)) held ∙ sym (ap (map (head_of h.seq)) held) in
    ap (λ (q : ℕ). record (connected_numbers cfg h (tcb_of w)) { queued = q }) queue
    ∙ ap (λ (l : List HeldHead). record (tcb_of (connected cfg h w)) { held = record { items = l } }) heads

says-connected : (cfg : Cfg) (w : Connection) (n : WireNo) (seg : Seg) → w.una ≤ 1 → w.held ≡ [] → Says w n seg (announces (at_work.on (at w (start w) []) (connected_numbers cfg seg.head (tcb_of w))) told.ConnectedUp) (gives (on (start w) (connected cfg seg.head w)) (outputs.Told told.ConnectedUp))
says-connected cfg w n seg first held =
    let c : Connection = connected cfg seg.head w in
    let v : Verdict = record (so_far w (acked_data w - acked_data w) []) { told = record { items = told.ConnectedUp ∷ [] } } in
    let count : acked_data w - acked_data w ≡ acked_data c - acked_data w = omega arith in
    subst (λ t. Says w n seg (work t v) (gives (on (start w) c) (outputs.Told told.ConnectedUp))) (sym (same-connected cfg seg.head w first held))
    (said w n seg c v (outputs.Told told.ConnectedUp ∷ []) refl (keep-pieces w.accepted w.irs w.held) (keep-held w.irs w.held) refl refl refl count (lives w c refl))

pub says-syn_sent : (cfg : Cfg) (w : Connection) (n : WireNo) (seg : Seg) → w.state ≡ st.SynSent → IsKept cfg w → Says w n seg (syn_sent_part cfg seg.head (at w (start w) [])) (syn_sent cfg seg.head (start w))
unfolding syn_sent_part syn_sent
says-syn_sent cfg w n seg is k =
    by_tests (has_flag seg.head.flags ACK) (not (seg.head.ack == number w.iss 1)) (has_flag seg.head.flags RST) (has_flag seg.head.flags SYN)
  where
    a : Agrees w (start w) []
    a = begins w (ap is_closed is)

    one : w.nxt ≡ 1
    one = k.sound.sender.syn (ap is_syn_sent is)

    first : w.una ≤ 1
    first = let order : w.una ≤ w.nxt = k.sound.sender.order in omega (arith, one)

    by_tests : (b c d e : Bool) → Says w n seg (if b && c then (if d then at w (start w) [] else replies (at w (start w) []) (reset_head (tcb_of w) seg.head)) else if d then (if b then announces (ends (at w (start w) [])) told.ConnectedRefused else at w (start w) []) else if e && b then announces (at_work.on (at w (start w) []) (connected_numbers cfg seg.head (tcb_of w))) told.ConnectedUp else at w (start w) []) (if b && c then (if d then start w else gives (start w) (reset_frame w seg.head)) else if d then (if b then gives (on (start w) (ended w)) (outputs.Told told.ConnectedRefused) else start w) else if e && b then gives (on (start w) (connected cfg seg.head w)) (outputs.Told told.ConnectedUp) else start w)
    by_tests true true true e = says-nothing w n seg (start w) [] a
    by_tests true true false e = says-answered w n seg (start w) [] w (Some (reset_head (tcb_of w) seg.head)) a a.same a.alive refl
    by_tests true false true e = says-ended w n seg (start w) [] (told.ConnectedRefused ∷ []) (outputs.Told told.ConnectedRefused ∷ []) a refl refl
    by_tests true false false true = says-connected cfg w n seg first (k.sound.untouched (ap is_unknown is))
    by_tests true false false false = says-nothing w n seg (start w) [] a
    by_tests false c true e = says-nothing w n seg (start w) [] a
    by_tests false c false true = says-nothing w n seg (start w) [] a
    by_tests false c false false = says-nothing w n seg (start w) [] a
