-- The body and the FIN of a segment over numbers stand for those of the connection.
use Rattle.std.proofs.Common.{◌≡◌, ℕ, ◌+◌, ◌-◌, ◌^◌, ◌<◌, ◌≤◌, Bool, true, false, if◌then◌else◌, List, [], ◌∷◌, ◌++◌, length, arith, refl, ap, sym, subst, ◌∙◌, inl, inr, append-nil, append_assoc}
use Rattle.std.specs.Prelude.{nat_lt, ◌&&◌, ◌==◌, not, map, insert, Option, Some, None, pos, ◌+ℤ◌}
use Rattle.std.specs.List.{list_all}
use Rattle.std.proofs.lemmas.Bool.{cases_Bool}
use Rattle.std.proofs.lemmas.List.{length-map}
use Rattle.std.proofs.lemmas.Grind.{common_steps}
use Rattle.ix_base.specs.declared.id.WireNo.{WireNo}
use Rattle.ix_base.specs.declared.segment.Seg.{Seg}
use Rattle.ix_base.specs.declared.segment.SegHead.{SegHead}
use Rattle.ix_base.specs.Sequence.{number, offset, is_past, past_of, is_next}
use Rattle.ix_base.specs.Flags.{has_flag}
use Rattle.ix_tcpdef.specs.Ticks.{later}
use Rattle.ix_tcpdef.specs.Connection.{acked_data, rcv_nxt, rcv_wnd, seq_of, is_closed, on, gives}
use Rattle.ix_tcpdef.specs.Frames.{ack_frame}
use Rattle.ix_tcpdef.specs.Body.{octets, delivered, filled, is_apart, held_among, waiting, received, takes_body, ends_next, body, past_fin, fin_taken_in, fin_taken, finished, text_and_fin}
use Rattle.ix_tcpdef.specs.Needs.{IsFramed}
use Rattle.ix_tcpdef.specs.Sound.{IsKept}
use Rattle.ix_tcpdef.specs.declared.types.Cfg.{Cfg}
use Rattle.ix_tcpdef.specs.declared.types.State.{State}
use Rattle.ix_tcpdef.specs.declared.types.State.TheVariants as st
use Rattle.ix_tcpdef.specs.declared.types.Connection.{Connection}
use Rattle.ix_tcpdef.specs.declared.types.HeldHead.{HeldHead}
use Rattle.ix_tcpdef.specs.declared.types.HeldSegment.{HeldSegment}
use Rattle.ix_tcpdef.specs.declared.types.Job.{Job}
use Rattle.ix_tcpdef.specs.declared.types.Octets.{Octets}
use Rattle.ix_tcpdef.specs.declared.types.Output.{Output}
use Rattle.ix_tcpdef.specs.declared.types.Output.TheVariants as outputs
use Rattle.ix_tcpdef.specs.declared.types.Piece.{Piece}
use Rattle.ix_tcpdef.specs.declared.types.Tcb.{Tcb}
use Rattle.ix_tcpdef.specs.declared.types.Told.{Told}
use Rattle.ix_tcpdef.specs.declared.types.Told.TheVariants as told
use Rattle.ix_base.specs.declared.segment.TheConstants.{FIN}
use Rattle.ix_tcpdef.specs.Stands.{tcb_of, head_of}
use Rattle.ix_tcpin.proofs.PositionLemmas.{goes_on}
use Rattle.ix_tcpin.specs.declared.text.Octets.{Octets as Places}
use Rattle.ix_tcpin.specs.declared.verdict.HeldUse.{HeldUse}
use Rattle.ix_tcpin.specs.declared.verdict.Take.TheVariants as takes
use Rattle.ix_tcpin.specs.declared.verdict.Verdict.{Verdict}
use Rattle.ix_tcpin.specs.Heads.{ack_head}
use Rattle.ix_tcpin.specs.Work.{work, keep, let_go, replies, announces}
use Rattle.ix_tcpin.specs.Text.{octets_in, moved, holds, is_beside, place_among, head_held, waiting_part, taken_body, fills, Filled, filled_numbers, Texted, texted, received_part, stands_next, body_part, behind_fin, fin_part_in, fin_part, finished_part, text_part}
use Rattle.ix_tcpin.specs.Verdict.{body_piece, body_pieces, held_pieces, kept_held, body_held, held_with, pieces_of, is_end, first_told, last_told, told_pieces, frame_of, reply_of}
use Rattle.ix_tcpin.proofs.Relation.{so_far, at, SameText, Agrees, Says, keep-pieces, keep-held, dropped-pieces, dropped-held, lives, says-nothing}
use Rattle.ix_tcpin.proofs.CheckLemmas.{says-ack}
use Rattle.ix_tcpin.proofs.FillLemmas.{piece_of, Delivers, delivers, IsNear, Fills, told-append, fill-stands}
use Rattle.ix_tcpin.proofs.FillLemmas as fill
use Rattle.ix_tcpin.proofs.HoleLemmas.{IsCut, octets-cut, beside-all, among, head-held}

-- what the body leaves
pub record Texts (w : Connection) (n : WireNo) (seg : Seg) (b : Texted) (r : Job × Bool) : Type 0 where
  pub says : Says w n seg b.work r.0
  pub stands : b.stands ≡ r.1
  pub last : last_told b.work.verdict.told.items ≡ []
  -- where a FIN stands, nothing is answered, and nothing of the body is held
  pub quiet : b.stands ≡ true → b.work.verdict.reply ≡ None
  pub loose : b.stands ≡ true → held_with w n seg b.work.verdict.take [] ≡ []
  -- a segment without a body is not answered yet
  pub bare : (seg.head.len == 0) ≡ true → b.work.verdict.reply ≡ None
  pub before : is_closed w.state ≡ false
  pub alive : is_closed r.0.connection.state ≡ false

-- ## No octets
ends_as : (w : Connection) (seg : Seg) → IsFramed seg → stands_next seg.head (tcb_of w) ≡ ends_next seg w
ends_as w seg framed = ap (λ (m : ℕ). has_flag seg.head.flags FIN && is_next (seq_of w seg.head +ℤ pos m)) (sym framed.len)

texts-nothing : (w : Connection) (n : WireNo) (seg : Seg) (j : Job) (es : List Told) → IsFramed seg → Agrees w j es → Texts w n seg (texted (at w j es) (stands_next seg.head (tcb_of j.connection))) (j, ends_next seg j.connection)
texts-nothing w n seg j es framed a =
    record {
      says = says-nothing w n seg j es a;
      stands = ends_as j.connection seg framed;
      last = a.last;
      quiet = λ _. refl;
      loose = λ _. refl;
      bare = λ _. refl;
      before = a.before;
      alive = a.alive;
    }

-- ## In order
body_as : (w : Connection) (n : WireNo) (seg : Seg) (c : Connection) (p : Places) (o : Octets) → c.accepted ≡ w.accepted → o.from ≡ seg.head.at + p.from → o.bytes ≡ (body_piece true n seg p.from p.to).bytes → body_pieces w.accepted n seg (taken_body (tcb_of c) p) ≡ fill.pieces_of n o c
body_as w n seg c p o accepted from bytes = by_test c.shut
  where
    by_test : (a : Bool) → body_pieces w.accepted n seg (if a then takes.Discard p.from p.to else takes.Deliver p.from p.to) ≡ (if a then [] else piece_of n o c.accepted ∷ [])
    by_test true = refl
    by_test false =
        ap (λ (t : Bool). (record { w = n; from = seg.head.at + p.from; bytes = (body_piece true n seg p.from p.to).bytes; told = t }) ∷ []) (sym accepted)
        ∙ ap (λ (f : ℕ). (record { w = n; from = f; bytes = (body_piece true n seg p.from p.to).bytes; told = c.accepted }) ∷ []) (sym from)
        ∙ ap (λ (l : List ℕ). (record { w = n; from = o.from; bytes = l; told = c.accepted }) ∷ []) (sym bytes)

held_as : (w : Connection) (n : WireNo) (seg : Seg) (t : Tcb) (p : Places) (kept : List HeldSegment) → held_with w n seg (taken_body t p) kept ≡ kept
held_as w n seg t p kept = by_test t.shut
  where
    by_test : (a : Bool) → held_with w n seg (if a then takes.Discard p.from p.to else takes.Deliver p.from p.to) kept ≡ kept
    by_test true = refl
    by_test false = refl

-- what is delivered, in terms of the verdict
said-taken : (w : Connection) (n : WireNo) (seg : Seg) (j i r : Job) (es : List Told) (c : Tcb) (p : Places) (o : Octets) (t : Tcb) (us : List HeldUse) → Agrees w j es → body_pieces w.accepted n seg (taken_body c p) ≡ fill.pieces_of n o j.connection → Delivers n o j i → Fills w.accepted j.connection.held i (record { numbers = t; uses = us; fin = true }) (r, true) → Says w n seg (work t (record (so_far w (acked_data j.connection - acked_data w) es) { take = taken_body c p; held = record { items = us } })) r
said-taken w n seg j i r es c p o t us a part d f =
    let P : List Piece = fill.pieces_of n o j.connection in
    let H : List Piece = held_pieces w.accepted j.connection.held us in
    let same : held_pieces w.accepted w.held us ≡ H = ap (λ (l : List HeldSegment). held_pieces w.accepted l us) (sym a.same.held) in
    let both : body_pieces w.accepted n seg (taken_body c p) ++ held_pieces w.accepted w.held us ≡ P ++ H = ap (λ (l : List Piece). l ++ held_pieces w.accepted w.held us) part ∙ ap (λ (l : List Piece). P ++ l) same in
    record {
      numbers = f.numbers;
      outputs =
          ap (λ (l : List Output). l ++ told_pieces (body_pieces w.accepted n seg (taken_body c p) ++ held_pieces w.accepted w.held us) ++ [] ++ last_told es) a.first
          ∙ ap (λ (l : List Output). j.outputs ++ told_pieces (body_pieces w.accepted n seg (taken_body c p) ++ held_pieces w.accepted w.held us) ++ [] ++ l) a.last
          ∙ ap (λ (l : List Piece). j.outputs ++ told_pieces l ++ [] ++ []) both
          ∙ append-nil (j.outputs ++ told_pieces (P ++ H) ++ [])
          ∙ append-nil (j.outputs ++ told_pieces (P ++ H))
          ∙ ap (λ (l : List Output). j.outputs ++ l) (told-append P H)
          ∙ sym (append_assoc j.outputs (told_pieces P) (told_pieces H))
          ∙ ap (λ (l : List Output). l ++ told_pieces H) (sym d.outputs)
          ∙ sym f.outputs;
      pieces =
          f.pieces
          ∙ ap (λ (l : List Piece). l ++ H) (d.pieces ∙ ap (λ (l : List Piece). l ++ P) a.same.pieces)
          ∙ append_assoc w.pieces P H
          ∙ ap (λ (l : List Piece). w.pieces ++ l) (sym both);
      held = f.held ∙ ap (λ (l : List HeldSegment). kept_held l us) a.same.held ∙ sym (held_as w n seg c p (kept_held w.held us));
      acked = ap (λ (m : ℕ). m - acked_data w) (sym (f.acked ∙ d.same.acked));
      ended = lives w r.connection (ap is_closed (f.state ∙ d.same.state) ∙ a.alive);
    }

-- a segment at what is expected
pub taken_place : (past rcv at : ℕ) → at ≡ rcv + past → (past == 0) ≡ (at == rcv)
taken_place past rcv at is =
    elim (cases_Bool (past == 0)) [ inl here ↦ grind (arith, common_steps, here) | inr beyond ↦ grind (arith, common_steps, beyond) ]

texts-taken : (cfg : Cfg) (w : Connection) (n : WireNo) (seg : Seg) (j : Job) (es : List Told) (p : Places) (o : Octets) (fin : Bool) → cfg.window < 2 ^ 16 → Agrees w j es → IsKept cfg j.connection → IsCut (rcv_wnd cfg j.connection) j.connection.rcv (past_of (seq_of j.connection seg.head)) seg p o → p.from < p.to → p.past ≡ 0 → Texts w n seg (texted (fills p (filled_numbers (map (head_of j.connection.irs) j.connection.held) fin (moved (p.to - p.from) (tcb_of j.connection))) (at w j es)) (filled_numbers (map (head_of j.connection.irs) j.connection.held) fin (moved (p.to - p.from) (tcb_of j.connection))).fin) (filled j.connection.held fin (delivered o n j))
texts-taken cfg w n seg j es p o fin window a k cut some here =
    let c : Connection = j.connection in
    let top : ℕ = c.rcv + (cfg.window - c.unread) in
    let fits : c.unread ≤ cfg.window = k.standing.buffer.unread_fits in
    let len : length o.bytes ≡ p.to - p.from = cut.len in
    let reach : p.past + (p.to - p.from) ≤ cfg.window - c.unread = cut.reach some in
    let d : Delivers n o j (delivered o n j) = delivers n o j (omega (arith, len, reach, fits, window)) in
    let i : Job = delivered o n j in
    let near : IsNear c.rcv top i.connection = record { far = omega arith; begun = omega (arith, d.rcv); reach = omega (arith, d.rcv, len, reach, here); space = omega (arith, d.rcv, d.unread, fits, window) } in
    let f : Fills w.accepted c.held i (filled_numbers (map (head_of i.connection.irs) c.held) fin (tcb_of i.connection)) (filled c.held fin i) =
    fill-stands c.rcv top (c.rcv + 1) w.accepted c.held fin i (d.same.accepted ∙ a.same.accepted) d.same.held (omega arith) k.sound.receiver.rising k.standing.buffer.held_fits near in
    let numbers : filled_numbers (map (head_of i.connection.irs) c.held) fin (tcb_of i.connection) ≡ filled_numbers (map (head_of c.irs) c.held) fin (moved (p.to - p.from) (tcb_of c)) =
    ap (λ (irs : ℕ). filled_numbers (map (head_of irs) c.held) fin (tcb_of i.connection)) d.same.irs
    ∙ ap (filled_numbers (map (head_of c.irs) c.held) fin) (sym d.numbers ∙ ap (λ (m : ℕ). moved m (tcb_of c)) len) in
    let g : Fills w.accepted c.held i (filled_numbers (map (head_of c.irs) c.held) fin (moved (p.to - p.from) (tcb_of c))) (filled c.held fin i) =
    subst (λ (x : Filled). Fills w.accepted c.held i x (filled c.held fin i)) numbers f in
    record {
      says = said-taken w n seg j i (filled c.held fin i).0 es (tcb_of c) p o _ _ a (body_as w n seg c p o a.same.accepted cut.from cut.bytes) d (record { numbers = g.numbers; fin = refl; pieces = g.pieces; outputs = g.outputs; held = g.held; acked = g.acked; state = g.state });
      stands = g.fin;
      last = a.last;
      quiet = λ _. refl;
      loose = λ _. held_as w n seg (tcb_of c) p [];
      bare = λ _. refl;
      before = a.before;
      alive = ap is_closed (g.state ∙ d.same.state) ∙ a.alive;
    }

-- ## Behind a hole
new_as : (window : ℕ) (w : Connection) (n : WireNo) (seg : Seg) (c : Connection) (p : Places) (o : Octets) → SameText w c → IsCut window c.rcv (past_of (seq_of c seg.head)) seg p o → p.from < p.to → record { at = o.at; w = n; from = o.from; bytes = o.bytes; fin = has_flag seg.head.flags FIN && o.whole } ≡ body_held w n seg p.from p.to
new_as window w n seg c p o same cut some =
    let place : o.at ≡ w.rcv + past_of (seq_of w seg.head) =
    cut.at ∙ ap (λ (m : ℕ). c.rcv + m) cut.past
    ∙ ap (λ (irs : ℕ). c.rcv + past_of (offset (number irs c.rcv) seg.head.seq)) same.irs
    ∙ ap (λ (rcv : ℕ). rcv + past_of (offset (number w.irs rcv) seg.head.seq)) same.rcv in
    let fin : (has_flag seg.head.flags FIN && o.whole) ≡ (has_flag seg.head.flags FIN && (p.to == seg.head.len)) = ap (λ (b : Bool). has_flag seg.head.flags FIN && b) (cut.whole ∙ cut.ends some) in
    ap (λ (m : ℕ). record { at = m; w = n; from = o.from; bytes = o.bytes; fin = has_flag seg.head.flags FIN && o.whole }) place
    ∙ ap (λ (m : ℕ). record { at = w.rcv + past_of (seq_of w seg.head); w = n; from = m; bytes = o.bytes; fin = has_flag seg.head.flags FIN && o.whole }) cut.from
    ∙ ap (λ (l : List ℕ). record { at = w.rcv + past_of (seq_of w seg.head); w = n; from = seg.head.at + p.from; bytes = l; fin = has_flag seg.head.flags FIN && o.whole }) cut.bytes
    ∙ ap (λ (b : Bool). record { at = w.rcv + past_of (seq_of w seg.head); w = n; from = seg.head.at + p.from; bytes = (body_held w n seg p.from p.to).bytes; fin = b }) fin

-- one more segment is held, and the hole is answered
says-held : (cfg : Cfg) (w : Connection) (n : WireNo) (seg : Seg) (j : Job) (es : List Told) (p : Places) (new : HeldSegment) (heads : List HeldHead) → Agrees w j es → new ≡ body_held w n seg p.from p.to → heads ≡ map (head_of j.connection.irs) (held_among new j.connection.held) → Says w n seg (replies (work (holds heads (tcb_of j.connection)) (record (so_far w (acked_data j.connection - acked_data w) es) { take = takes.Hold p.from p.to })) (ack_head cfg (tcb_of j.connection))) (gives (on j (record j.connection { held = held_among new j.connection.held })) (ack_frame cfg j.connection))
says-held cfg w n seg j es p new heads a is same =
    record {
      numbers = ap (λ (l : List HeldHead). holds l (tcb_of j.connection)) same;
      outputs =
          ap (λ (l : List Output). l ++ told_pieces ([] ++ held_pieces w.accepted w.held (map keep (map (head_of w.irs) w.held))) ++ frame_of (ack_head cfg (tcb_of j.connection)) ∷ [] ++ last_told es) a.first
          ∙ ap (λ (l : List Output). j.outputs ++ told_pieces ([] ++ held_pieces w.accepted w.held (map keep (map (head_of w.irs) w.held))) ++ frame_of (ack_head cfg (tcb_of j.connection)) ∷ [] ++ l) a.last
          ∙ ap (λ (l : List Piece). j.outputs ++ told_pieces l ++ frame_of (ack_head cfg (tcb_of j.connection)) ∷ [] ++ []) (keep-pieces w.accepted w.irs w.held)
          ∙ append-nil (j.outputs ++ [] ++ frame_of (ack_head cfg (tcb_of j.connection)) ∷ [])
          ∙ ap (λ (l : List Output). l ++ frame_of (ack_head cfg (tcb_of j.connection)) ∷ []) (append-nil j.outputs);
      pieces = a.same.pieces ∙ sym (append-nil w.pieces) ∙ ap (λ (l : List Piece). w.pieces ++ ([] ++ l)) (sym (keep-pieces w.accepted w.irs w.held));
      held = ap (λ (s : HeldSegment). held_among s j.connection.held) is ∙ ap (held_among (body_held w n seg p.from p.to)) (a.same.held ∙ sym (keep-held w.irs w.held));
      acked = refl;
      ended = lives w j.connection a.alive;
    }

-- a segment with octets has a body
has-body : (len from to : ℕ) (o : Option SegHead) → from < to → to ≤ len → (len == 0) ≡ true → o ≡ None
has-body len from to o some within none =
    let zero_len : len ≡ 0 = grind (arith, common_steps, none) in
    absurd (omega arith)

-- the test of room over numbers
pub waits-as : (cfg : Cfg) (seg : Seg) (c : Connection) (p : Places) (o : Octets) → cfg.window < 2 ^ 16 → IsKept cfg c → IsCut (rcv_wnd cfg c) c.rcv (past_of (seq_of c seg.head)) seg p o → (nat_lt (length (map (head_of c.irs) c.held)) 8 && list_all (is_beside (number c.irs c.rcv) p) (map (head_of c.irs) c.held)) ≡ (nat_lt (length c.held) 8 && list_all (is_apart o) c.held)
waits-as cfg seg c p o window k cut =
    let top : ℕ = c.rcv + (cfg.window - c.unread) in
    ap (λ (m : ℕ). nat_lt m 8 && list_all (is_beside (number c.irs c.rcv) p) (map (head_of c.irs) c.held)) (length-map c.held (head_of c.irs))
    ∙ ap (λ (b : Bool). nat_lt (length c.held) 8 && b) (beside-all c.irs c.rcv (c.rcv + 1) top p o c.held cut.at cut.len (omega arith) (omega arith) k.sound.receiver.rising k.standing.buffer.held_fits)

texts-hole : (cfg : Cfg) (w : Connection) (n : WireNo) (seg : Seg) (j : Job) (es : List Told) (p : Places) (o : Octets) → cfg.window < 2 ^ 16 → Agrees w j es → IsKept cfg j.connection → IsCut (rcv_wnd cfg j.connection) j.connection.rcv (past_of (seq_of j.connection seg.head)) seg p o → p.from < p.to → Texts w n seg (texted (replies (waiting_part p (has_flag seg.head.flags FIN && o.whole) (at w j es)) (ack_head cfg (tcb_of j.connection))) false) (gives (on j (waiting o n (has_flag seg.head.flags FIN && o.whole) j.connection)) (ack_frame cfg j.connection), false)
unfolding waiting_part waiting
texts-hole cfg w n seg j es p o window a k cut some =
    let c : Connection = j.connection in
    let test : (nat_lt (length (map (head_of c.irs) c.held)) 8 && list_all (is_beside (number c.irs c.rcv) p) (map (head_of c.irs) c.held)) ≡ (nat_lt (length c.held) 8 && list_all (is_apart o) c.held) = waits-as cfg seg c p o window k cut in
    subst (λ (b : Bool). Texts w n seg (texted (replies (if b then work (holds (insert (map (head_of c.irs) c.held) (place_among (number c.irs c.rcv) p.past (map (head_of c.irs) c.held)) (head_held (number c.irs c.rcv) p (has_flag seg.head.flags FIN && o.whole))) (tcb_of c)) (record (so_far w (acked_data c - acked_data w) es) { take = takes.Hold p.from p.to }) else at w j es) (ack_head cfg (tcb_of c))) false) (gives (on j (if nat_lt (length c.held) 8 && list_all (is_apart o) c.held then record c { held = held_among (record { at = o.at; w = n; from = o.from; bytes = o.bytes; fin = has_flag seg.head.flags FIN && o.whole }) c.held } else c)) (ack_frame cfg c), false)) (sym test)
    (by_test (nat_lt (length c.held) 8 && list_all (is_apart o) c.held))
  where
    by_test : (b : Bool) → Texts w n seg (texted (replies (if b then work (holds (insert (map (head_of j.connection.irs) j.connection.held) (place_among (number j.connection.irs j.connection.rcv) p.past (map (head_of j.connection.irs) j.connection.held)) (head_held (number j.connection.irs j.connection.rcv) p (has_flag seg.head.flags FIN && o.whole))) (tcb_of j.connection)) (record (so_far w (acked_data j.connection - acked_data w) es) { take = takes.Hold p.from p.to }) else at w j es) (ack_head cfg (tcb_of j.connection))) false) (gives (on j (if b then record j.connection { held = held_among (record { at = o.at; w = n; from = o.from; bytes = o.bytes; fin = has_flag seg.head.flags FIN && o.whole }) j.connection.held } else j.connection)) (ack_frame cfg j.connection), false)
    by_test false =
        record {
          says = says-ack cfg w n seg j es a;
          stands = refl;
          last = a.last;
          quiet = λ e. cc;
          loose = λ e. cc;
          bare = has-body seg.head.len p.from p.to (Some (ack_head cfg (tcb_of j.connection))) some cut.within;
          before = a.before;
          alive = a.alive;
        }
    by_test true =
        record {
          says = says-held cfg w n seg j es p _ _ a (new_as _ w n seg j.connection p o a.same cut some) (among j.connection.irs j.connection.rcv (j.connection.rcv + 1) (j.connection.rcv + (cfg.window - j.connection.unread)) p.past _ (record { at = o.at; w = n; from = o.from; bytes = o.bytes; fin = has_flag seg.head.flags FIN && o.whole }) j.connection.held cut.at (head-held j.connection.irs j.connection.rcv p (record { at = o.at; w = n; from = o.from; bytes = o.bytes; fin = has_flag seg.head.flags FIN && o.whole }) cut.at cut.len) (omega arith) (omega (arith, window)) k.sound.receiver.rising k.standing.buffer.held_fits);
          stands = refl;
          last = a.last;
          quiet = λ e. cc;
          loose = λ e. cc;
          bare = has-body seg.head.len p.from p.to (Some (ack_head cfg (tcb_of j.connection))) some cut.within;
          before = a.before;
          alive = a.alive;
        }

-- ## The body
texts-received : (cfg : Cfg) (w : Connection) (n : WireNo) (seg : Seg) (j : Job) (es : List Told) (p : Places) (o : Octets) → cfg.window < 2 ^ 16 → Agrees w j es → IsKept cfg j.connection → IsCut (rcv_wnd cfg j.connection) j.connection.rcv (past_of (seq_of j.connection seg.head)) seg p o → p.from < p.to → Texts w n seg (received_part cfg p (has_flag seg.head.flags FIN && o.whole) (at w j es)) (received cfg o n (has_flag seg.head.flags FIN && o.whole) j)
unfolding received_part received
texts-received cfg w n seg j es p o window a k cut some =
    elim (cases_Bool (p.past == 0)) [
      | inl here ↦
          let next : (o.at == j.connection.rcv) ≡ true = sym (taken_place p.past j.connection.rcv o.at cut.at) ∙ here in
          rw (here, next) (texts-taken cfg w n seg j es p o (has_flag seg.head.flags FIN && o.whole) window a k cut some (grind (arith, common_steps, here)))
      | inr beyond ↦
          let not_next : (o.at == j.connection.rcv) ≡ false = sym (taken_place p.past j.connection.rcv o.at cut.at) ∙ beyond in
          rw (beyond, not_next) (texts-hole cfg w n seg j es p o window a k cut some)
    ]

pub empty_test : (from to len : ℕ) → len ≡ to - from → from ≤ to → (to == from) ≡ (len == 0)
empty_test from to len is order =
    elim (cases_Bool (to == from)) [ inl level ↦ grind (arith, common_steps, level) | inr more ↦ grind (arith, common_steps, more) ]

texts-octets : (cfg : Cfg) (w : Connection) (n : WireNo) (seg : Seg) (j : Job) (es : List Told) (p : Places) (o : Octets) → cfg.window < 2 ^ 16 → IsFramed seg → Agrees w j es → IsKept cfg j.connection → IsCut (rcv_wnd cfg j.connection) j.connection.rcv (past_of (seq_of j.connection seg.head)) seg p o → Texts w n seg (if p.to == p.from then texted (at w j es) (stands_next seg.head (tcb_of j.connection)) else received_part cfg p (has_flag seg.head.flags FIN && p.whole) (at w j es)) (if length o.bytes == 0 then (j, ends_next seg j.connection) else received cfg o n (has_flag seg.head.flags FIN && o.whole) j)
texts-octets cfg w n seg j es p o window framed a k cut =
    let test : (p.to == p.from) ≡ (length o.bytes == 0) = empty_test p.from p.to (length o.bytes) cut.len cut.order in
    elim (cases_Bool (p.to == p.from)) [
      | inl none ↦
          let none_then : (length o.bytes == 0) ≡ true = sym test ∙ none in
          rw (none, none_then) (texts-nothing w n seg j es framed a)
      | inr more ↦
          let more_then : (length o.bytes == 0) ≡ false = sym test ∙ more in
          let order : p.from ≤ p.to = cut.order in
          rw (more, more_then)
          (subst (λ (b : Bool). Texts w n seg (received_part cfg p (has_flag seg.head.flags FIN && b) (at w j es)) (received cfg o n (has_flag seg.head.flags FIN && o.whole) j)) cut.whole
          (texts-received cfg w n seg j es p o window a k cut (grind (arith, common_steps, more))))
    ]

texts-body : (cfg : Cfg) (w : Connection) (n : WireNo) (seg : Seg) (j : Job) (es : List Told) → cfg.window < 2 ^ 16 → IsFramed seg → Agrees w j es → IsKept cfg j.connection → Texts w n seg (body_part cfg seg.head (at w j es)) (body cfg n seg j)
unfolding body_part body
texts-body cfg w n seg j es window framed a k =
    elim (cases_Bool (takes_body j.connection.state)) [
      | inr not_taken ↦ rw not_taken (texts-nothing w n seg j es framed a)
      | inl takes_it ↦ rw takes_it
          (texts-octets cfg w n seg j es (octets_in (rcv_wnd cfg j.connection) (seq_of j.connection seg.head) seg.head.len) (octets j.connection.rcv (rcv_wnd cfg j.connection) (seq_of j.connection seg.head) seg.head.at seg.body) window framed a k (octets-cut (rcv_wnd cfg j.connection) j.connection.rcv j.connection seg framed))
    ]

-- ## The FIN
-- a verdict with what was held let go, and with these events
abbrev over : Verdict → List Told → Verdict
over v es = record (let_go v) { told = record { items = es } }

pieces-let_go : (w : Connection) (n : WireNo) (seg : Seg) (v : Verdict) (es : List Told) → pieces_of w n seg (over v es) ≡ pieces_of w n seg v
pieces-let_go w n seg v es = ap (λ (l : List Piece). body_pieces w.accepted n seg v.take ++ l) (dropped-pieces w.accepted w.held v.held.items)

said-fin : (w : Connection) (n : WireNo) (seg : Seg) (j : Job) (v : Verdict) (s : Bool) (c : Connection) (es : List Told) (os : List Output) → s ≡ true → Texts w n seg (texted (work (tcb_of j.connection) v) s) (j, s) → c.pieces ≡ j.connection.pieces → c.held ≡ [] → acked_data c ≡ acked_data j.connection → is_closed c.state ≡ false → first_told es ≡ first_told v.told.items → last_told es ≡ os → Says w n seg (work (tcb_of c) (over v es)) (record { connection = c; outputs = j.outputs ++ os })
said-fin w n seg j v s c es os stands t pieces held acked alive first last =
    let none : v.reply ≡ None = t.quiet stands in
    let A : List Output = first_told v.told.items in
    let B : List Output = told_pieces (pieces_of w n seg v) in
    let before : A ++ B ≡ j.outputs =
    sym (append-nil (A ++ B)) ∙ sym (append-nil (A ++ B ++ []))
    ∙ ap (λ (r : Option SegHead). A ++ B ++ reply_of r ++ []) (sym none)
    ∙ ap (λ (l : List Output). A ++ B ++ reply_of v.reply ++ l) (sym t.last)
    ∙ t.says.outputs in
    record {
      numbers = refl;
      outputs =
          ap (λ (l : List Output). l ++ told_pieces (pieces_of w n seg (over v es)) ++ reply_of v.reply ++ last_told es) first
          ∙ ap (λ (l : List Piece). A ++ told_pieces l ++ reply_of v.reply ++ last_told es) (pieces-let_go w n seg v es)
          ∙ ap (λ (r : Option SegHead). A ++ B ++ reply_of r ++ last_told es) none
          ∙ ap (λ (l : List Output). l ++ last_told es) (append-nil (A ++ B) ∙ before)
          ∙ ap (λ (l : List Output). j.outputs ++ l) last;
      pieces = pieces ∙ t.says.pieces ∙ ap (λ (l : List Piece). w.pieces ++ l) (sym (pieces-let_go w n seg v es));
      held = held ∙ sym (ap (held_with w n seg v.take) (dropped-held w.held v.held.items) ∙ t.loose stands);
      acked = t.says.acked ∙ ap (λ (m : ℕ). m - acked_data w) (sym acked);
      ended = t.says.ended ∙ sym (lives w j.connection t.alive) ∙ lives w c alive;
    }

-- nothing is told of the end
said-fin_quiet : (w : Connection) (n : WireNo) (seg : Seg) (j : Job) (v : Verdict) (s : Bool) (c : Connection) → s ≡ true → Texts w n seg (texted (work (tcb_of j.connection) v) s) (j, s) → c.pieces ≡ j.connection.pieces → c.held ≡ [] → acked_data c ≡ acked_data j.connection → is_closed c.state ≡ false → Says w n seg (work (tcb_of c) (let_go v)) (on j c)
said-fin_quiet w n seg j v s c stands t pieces held acked alive =
    subst (λ (l : List Output). Says w n seg (work (tcb_of c) (let_go v)) (record { connection = c; outputs = l })) (append-nil j.outputs)
    (said-fin w n seg j v s c v.told.items [] stands t pieces held acked alive refl t.last)

-- the end of the stream, behind everything else that is told
end-first : (es : List Told) → first_told (es ++ told.RecvEnd ∷ []) ≡ first_told es
end-first [] = refl
end-first (e ∷ es) =
    elim (cases_Bool (is_end e)) [
      | inl last ↦ rw last (end-first es)
      | inr before ↦ rw before (ap (λ (l : List Output). outputs.Told e ∷ l) (end-first es))
    ]

end-last : (es : List Told) → last_told (es ++ told.RecvEnd ∷ []) ≡ last_told es ++ outputs.Told told.RecvEnd ∷ []
end-last [] = refl
end-last (e ∷ es) =
    elim (cases_Bool (is_end e)) [
      | inl last ↦ rw last (ap (λ (l : List Output). outputs.Told e ∷ l) (end-last es))
      | inr before ↦ rw before (end-last es)
    ]

behind-fin : (w : Connection) → behind_fin (tcb_of w) ≡ tcb_of (past_fin w)
behind-fin w = ap (λ (r : ℕ). record (tcb_of w) { rcv_nxt = r; ack_owed = true; held = record { items = [] } }) (sym (goes_on w.irs w.rcv 1))

says-fin_in : (st : State) (cfg : Cfg) (now : ℕ) (w : Connection) (n : WireNo) (seg : Seg) (j : Job) (v : Verdict) (s : Bool) → j.connection.state ≡ st → s ≡ true → Texts w n seg (texted (work (tcb_of j.connection) v) s) (j, s) → Says w n seg (fin_part_in st cfg now (work (tcb_of (past_fin j.connection)) (let_go v))) (fin_taken_in st cfg now j (past_fin j.connection))
says-fin_in st.Established cfg now w n seg j v s is stands t = by_test (j.connection.accepted && not j.connection.shut)
  where
    by_test : (b : Bool) → Says w n seg (if b then announces (work (tcb_of (record (past_fin j.connection) { state = st.CloseWait })) (let_go v)) told.RecvEnd else work (tcb_of (record (past_fin j.connection) { state = st.CloseWait })) (let_go v)) (if b then gives (on j (record (past_fin j.connection) { state = st.CloseWait })) (outputs.Told told.RecvEnd) else on j (record (past_fin j.connection) { state = st.CloseWait }))
    by_test true = said-fin w n seg j v s (record (past_fin j.connection) { state = st.CloseWait }) (v.told.items ++ told.RecvEnd ∷ []) (outputs.Told told.RecvEnd ∷ []) stands t refl refl refl refl (end-first v.told.items) (end-last v.told.items ∙ ap (λ (l : List Output). l ++ outputs.Told told.RecvEnd ∷ []) t.last)
    by_test false = said-fin_quiet w n seg j v s (record (past_fin j.connection) { state = st.CloseWait }) stands t refl refl refl refl
says-fin_in st.FinWait1 cfg now w n seg j v s is stands t = said-fin_quiet w n seg j v s (record (past_fin j.connection) { state = st.Closing }) stands t refl refl refl refl
says-fin_in st.FinWait2 cfg now w n seg j v s is stands t = said-fin_quiet w n seg j v s (record (past_fin j.connection) { state = st.TimeWait; deadline = Some (later now cfg.time_wait) }) stands t refl refl refl refl
says-fin_in _ cfg now w n seg j v s is stands t = said-fin_quiet w n seg j v s (past_fin j.connection) stands t refl refl refl t.alive

-- a FIN without a body that is not next is answered
says-fin_ahead : (cfg : Cfg) (w : Connection) (n : WireNo) (seg : Seg) (j : Job) (v : Verdict) (s : Bool) → (seg.head.len == 0) ≡ true → Texts w n seg (texted (work (tcb_of j.connection) v) s) (j, s) → Says w n seg (replies (work (tcb_of j.connection) v) (ack_head cfg (tcb_of j.connection))) (gives j (ack_frame cfg j.connection))
says-fin_ahead cfg w n seg j v s bare t =
    let none : v.reply ≡ None = t.bare bare in
    let A : List Output = first_told v.told.items in
    let B : List Output = told_pieces (pieces_of w n seg v) in
    let before : A ++ B ≡ j.outputs =
    sym (append-nil (A ++ B)) ∙ sym (append-nil (A ++ B ++ []))
    ∙ ap (λ (r : Option SegHead). A ++ B ++ reply_of r ++ []) (sym none)
    ∙ ap (λ (l : List Output). A ++ B ++ reply_of v.reply ++ l) (sym t.last)
    ∙ t.says.outputs in
    record {
      numbers = refl;
      outputs = ap (λ (l : List Output). A ++ B ++ ack_frame cfg j.connection ∷ [] ++ l) t.last ∙ append-nil (A ++ B ++ ack_frame cfg j.connection ∷ []) ∙ ap (λ (l : List Output). l ++ ack_frame cfg j.connection ∷ []) before;
      pieces = t.says.pieces;
      held = t.says.held;
      acked = t.says.acked;
      ended = t.says.ended;
    }

says-finished_at : (cfg : Cfg) (now : ℕ) (w : Connection) (n : WireNo) (seg : Seg) (j : Job) (v : Verdict) (s : Bool) → Texts w n seg (texted (work (tcb_of j.connection) v) s) (j, s) → Says w n seg (finished_part cfg seg.head now (texted (work (tcb_of j.connection) v) s)) (finished cfg seg.head now s j)
unfolding finished_part finished fin_part fin_taken
says-finished_at cfg now w n seg j v true t =
    subst (λ (x : Tcb). Says w n seg (fin_part_in j.connection.state cfg now (work x (let_go v))) (fin_taken_in j.connection.state cfg now j (past_fin j.connection))) (sym (behind-fin j.connection))
    (says-fin_in j.connection.state cfg now w n seg j v true refl refl t)
says-finished_at cfg now w n seg j v false t = by_tests (has_flag seg.head.flags FIN) (seg.head.len == 0) (is_past (rcv_nxt j.connection) seg.head.seq) refl
  where
    by_tests : (a b c : Bool) → (seg.head.len == 0) ≡ b → Says w n seg (if a && b && c then replies (work (tcb_of j.connection) v) (ack_head cfg (tcb_of j.connection)) else work (tcb_of j.connection) v) (if a && b && c then gives j (ack_frame cfg j.connection) else j)
    by_tests true true true e = says-fin_ahead cfg w n seg j v false e t
    by_tests true true false e = t.says
    by_tests true false c e = t.says
    by_tests false b c e = t.says

-- ## Both
says-finished : (cfg : Cfg) (now : ℕ) (w : Connection) (n : WireNo) (seg : Seg) (b : Texted) (r : Job × Bool) → Texts w n seg b r → Says w n seg (finished_part cfg seg.head now b) (finished cfg seg.head now r.1 r.0)
says-finished cfg now w n seg b r t =
    let same : texted (work (tcb_of r.0.connection) b.work.verdict) r.1 ≡ b =
    ap (λ (x : Tcb). texted (work x b.work.verdict) r.1) (sym t.says.numbers) ∙ ap (λ (s : Bool). texted b.work s) (sym t.stands) in
    let at_connection : Texts w n seg (texted (work (tcb_of r.0.connection) b.work.verdict) r.1) r = subst (λ (x : Texted). Texts w n seg x r) (sym same) t in
    subst (λ (x : Texted). Says w n seg (finished_part cfg seg.head now x) (finished cfg seg.head now r.1 r.0)) same
    (says-finished_at cfg now w n seg r.0 b.work.verdict r.1 at_connection)

pub says-text : (cfg : Cfg) (now : ℕ) (w : Connection) (n : WireNo) (seg : Seg) (j : Job) (es : List Told) → cfg.window < 2 ^ 16 → IsFramed seg → Agrees w j es → IsKept cfg j.connection → Says w n seg (text_part cfg seg.head now (at w j es)) (text_and_fin cfg n seg now j)
unfolding text_part text_and_fin
says-text cfg now w n seg j es window framed a k =
    says-finished cfg now w n seg (body_part cfg seg.head (at w j es)) (body cfg n seg j) (texts-body cfg w n seg j es window framed a k)
