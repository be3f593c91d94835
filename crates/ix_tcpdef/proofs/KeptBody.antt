-- What a connection keeps, over the body and the FIN of a segment.
use Rattle.std.proofs.Common.{◌≡◌, ℕ, ◌+◌, ◌-◌, ◌^◌, ◌<◌, ◌≤◌, Bool, true, false, if◌then◌else◌, length, take, drop, List, [], ◌∷◌, ◌++◌, arith, refl, sym, ap, subst, ◌∙◌, length-take, length-drop}
use Rattle.std.specs.Prelude.{nat_lt, nat_le, ◌&&◌, ◌==◌, not, Some, min}
use Rattle.std.specs.List.{list_all}
use Rattle.std.proofs.lemmas.Bool.{cond_both}
use Rattle.std.proofs.lemmas.Grind.{common_steps}
use Rattle.std.proofs.lemmas.List.Elements.{All-append, All-cons, All-nil}
use Rattle.ix_base.specs.declared.segment.SegHead.{SegHead}
use Rattle.ix_base.specs.declared.segment.Seg.{Seg}
use Rattle.ix_base.specs.declared.id.WireNo.{WireNo}
use Rattle.ix_base.specs.Sequence.{is_past, past_of, behind_of}
use Rattle.ix_base.specs.Flags.{has_flag}
use Rattle.ix_tcpdef.specs.Ticks.{later}
use Rattle.ix_tcpdef.specs.Connection.{rcv_nxt, rcv_wnd, seq_of, on}
use Rattle.ix_tcpdef.specs.Body.{octets, delivered, rest_of, holding, filled, is_apart, held_among, waiting, received, takes_body, ends_next, body, past_fin, fin_taken_in, fin_taken, finished, text_and_fin}
use Rattle.ix_tcpdef.specs.Needs.{EndsBy, LiesInFrames, AreParts, carries, IsFramed}
use Rattle.ix_tcpdef.specs.Sound.{IsKept, SendsInOrder, HoldsInOrder, RisesFrom, HasSizes, FitsBuffer, FitsPeer, has_windows, may_send, is_unknown}
use Rattle.ix_tcpdef.proofs.BodyLemmas.{EndsBy-mono}
use Rattle.ix_tcpdef.proofs.KeptArrival.{kept-tells}
use Rattle.ix_tcpdef.proofs.KeptAck.{kept-state}
use Rattle.ix_tcpdef.specs.declared.types.Cfg.{Cfg}
use Rattle.ix_tcpdef.specs.declared.types.State.{State}
use Rattle.ix_tcpdef.specs.declared.types.State.TheVariants as st
use Rattle.ix_tcpdef.specs.declared.types.Connection.{Connection}
use Rattle.ix_tcpdef.specs.declared.types.HeldSegment.{HeldSegment}
use Rattle.ix_tcpdef.specs.declared.types.Piece.{Piece}
use Rattle.ix_tcpdef.specs.declared.types.Octets.{Octets}
use Rattle.ix_tcpdef.specs.declared.types.Job.{Job}
use Rattle.ix_tcpdef.specs.declared.types.Told.TheVariants as told
use Rattle.ix_base.specs.declared.segment.TheConstants.{FIN}

-- ## Delivery
-- What holds while held segments are taken: what is left of them ends by top, and so does what is expected.
record IsFilling (cfg : Cfg) (top low : ℕ) (left : List HeldSegment) (w : Connection) : Type 0 where
  sender : SendsInOrder w.state w.una w.nxt (length w.sent) w.fin_wanted w.fin_sent
  sizes : HasSizes w.mss w.wnd w.expiries
  peer : FitsPeer w.state w.mss w.wnd w.cwnd w.ssthresh
  known : is_unknown w.state ≡ false
  pieces : AreParts w.pieces
  space : top + w.unread ≤ w.rcv + cfg.window
  reach : w.rcv ≤ top
  held : w.held ≡ left
  ends : EndsBy top left
  frames : LiesInFrames left
  rising : RisesFrom low left
  most : length left ≤ 8

kept-filling : (cfg : Cfg) (top low : ℕ) (left : List HeldSegment) (w : Connection) → RisesFrom (w.rcv + 1) left → IsFilling cfg top low left w → IsKept cfg w
kept-filling cfg top low left w above f =
    let fits : w.unread ≤ cfg.window = omega (arith, f.space, f.reach) in
    let higher : top ≤ w.rcv + (cfg.window - w.unread) = omega (arith, f.space, f.reach) in
    record {
      sound = record {
        sender = f.sender;
        receiver = subst (λ (h : List HeldSegment). HoldsInOrder w.rcv h) (sym f.held) (record { rising = above; frames = f.frames; most = f.most });
        sizes = f.sizes;
        unknown = λ e. let no : true ≡ false = sym e ∙ f.known in cc;
        untouched = λ e. let no : true ≡ false = sym e ∙ f.known in cc;
        unlost = λ e. let no : true ≡ false = sym e ∙ f.known in cc;
        pieces = f.pieces;
      };
      standing = record {
        buffer = subst (λ (h : List HeldSegment). FitsBuffer cfg.window w.rcv w.unread h) (sym f.held) (record { unread_fits = fits; held_fits = EndsBy-mono top _ left higher f.ends });
        peer = f.peer;
      };
    }

filling-delivered : (cfg : Cfg) (top low : ℕ) (left : List HeldSegment) (o : Octets) (w : WireNo) (j : Job) → j.connection.rcv + length o.bytes ≤ top → length o.bytes < 2 ^ 16 → IsFilling cfg top low left j.connection → IsFilling cfg top low left (delivered o w j).connection
unfolding delivered
filling-delivered cfg top low left o w j reach short f =
    let P : Job → Type 0 = λ r. IsFilling cfg top low left r.connection in
    let kept : IsFilling cfg top low left (record j.connection { rcv = j.connection.rcv + length o.bytes; ack_owed = true; unread = j.connection.unread + length o.bytes; pieces = j.connection.pieces ++ record { w = w; from = o.from; bytes = o.bytes; told = j.connection.accepted } ∷ [] }) = record {
      sender = f.sender;
      sizes = f.sizes;
      peer = f.peer;
      known = f.known;
      pieces = All-append (λ (p : Piece). length p.bytes < 2 ^ 16) j.connection.pieces _ f.pieces (All-cons (λ (p : Piece). length p.bytes < 2 ^ 16) _ [] short (All-nil (λ (p : Piece). length p.bytes < 2 ^ 16)));
      space = omega (arith, f.space);
      reach = reach;
      held = f.held;
      ends = f.ends;
      frames = f.frames;
      rising = f.rising;
      most = f.most;
    } in
    cond_both j.connection.shut _ _ P
    (λ _. record {
      sender = f.sender;
      sizes = f.sizes;
      peer = f.peer;
      known = f.known;
      pieces = f.pieces;
      space = omega (arith, f.space);
      reach = reach;
      held = f.held;
      ends = f.ends;
      frames = f.frames;
      rising = f.rising;
      most = f.most;
    })
    (λ _. cond_both j.connection.accepted _ _ P (λ _. kept) (λ _. kept))

-- one held segment less
filling-holding : (cfg : Cfg) (top low : ℕ) (s : HeldSegment) (rest : List HeldSegment) (w : Connection) → IsFilling cfg top low (s ∷ rest) w → IsFilling cfg top (s.at + length s.bytes) rest (record w { held = rest })
filling-holding cfg top low s rest w f =
    record {
      sender = f.sender;
      sizes = f.sizes;
      peer = f.peer;
      known = f.known;
      pieces = f.pieces;
      space = f.space;
      reach = f.reach;
      held = refl;
      ends = f.ends.1;
      frames = f.frames.1;
      rising = f.rising.2;
      most = omega (arith, f.most);
    }

kept-filled : (cfg : Cfg) (top low : ℕ) (left : List HeldSegment) (fin : Bool) (j : Job) → IsFilling cfg top low left j.connection → IsKept cfg (filled left fin j).0.connection
unfolding filled
kept-filled cfg top low [] fin j f = kept-filling cfg top low [] j.connection tt f
kept-filled cfg top low (s ∷ rest) fin j f =
    let P : Job × Bool → Type 0 = λ r. IsKept cfg r.0.connection in
    let len : length (drop (j.connection.rcv - s.at) s.bytes) ≡ length s.bytes - (j.connection.rcv - s.at) = length-drop (j.connection.rcv - s.at) s.bytes in
    let end : s.at + length s.bytes ≤ top = f.ends.0 in
    let place : s.from + length s.bytes < 2 ^ 16 = f.frames.0 in
    let held : IsFilling cfg top (s.at + length s.bytes) rest (holding rest j).connection = filling-holding cfg top low s rest j.connection f in
    cond_both (nat_lt j.connection.rcv s.at) _ _ P
    (λ before. kept-filling cfg top low (s ∷ rest) j.connection (grind (arith, common_steps), f.rising.1, f.rising.2) f)
    (λ after. cond_both (nat_le (s.at + length s.bytes) j.connection.rcv) _ _ P
    (λ _. kept-filled cfg top (s.at + length s.bytes) rest fin (holding rest j) held)
    (λ more. kept-filled cfg top (s.at + length s.bytes) rest s.fin (delivered (rest_of s j.connection.rcv) s.w (holding rest j)) (filling-delivered cfg top (s.at + length s.bytes) rest (rest_of s j.connection.rcv) s.w (holding rest j) (grind (arith, common_steps)) (omega arith) held)))

-- ## Holding
rising-among : (low : ℕ) (o : Octets) (new : HeldSegment) (held : List HeldSegment) → new.at ≡ o.at → new.bytes ≡ o.bytes → low ≤ new.at → 0 < length new.bytes → list_all (is_apart o) held ≡ true → RisesFrom low held → RisesFrom low (held_among new held)
rising-among low o new [] at bytes above some apart r = (above, some, tt)
rising-among low o new (s ∷ rest) at bytes above some apart r =
    let len : length new.bytes ≡ length o.bytes = ap length bytes in
    let here : is_apart o s ≡ true = grind (arith, common_steps, apart) in
    let others : list_all (is_apart o) rest ≡ true = grind (arith, common_steps, apart) in
    let low_s : low ≤ s.at = r.0 in
    let some_s : 0 < length s.bytes = r.1 in
    cond_both (nat_lt new.at s.at) _ _ (RisesFrom low)
    (λ before. (above, some, (grind (arith, common_steps, here, before, len, at), some_s, r.2)))
    (λ after. (low_s, some_s, rising-among (s.at + length s.bytes) o new rest at bytes (grind (arith, common_steps, here, after, len, at, some)) some others r.2))

frames-among : (new : HeldSegment) (held : List HeldSegment) → new.from + length new.bytes < 2 ^ 16 → LiesInFrames held → LiesInFrames (held_among new held)
frames-among new [] place f = (place, tt)
frames-among new (s ∷ rest) place f =
    cond_both (nat_lt new.at s.at) _ _ LiesInFrames (λ _. (place, f)) (λ _. (f.0, frames-among new rest place f.1))

ends-among : (top : ℕ) (new : HeldSegment) (held : List HeldSegment) → new.at + length new.bytes ≤ top → EndsBy top held → EndsBy top (held_among new held)
ends-among top new [] end e = (end, tt)
ends-among top new (s ∷ rest) end e =
    cond_both (nat_lt new.at s.at) _ _ (EndsBy top) (λ _. (end, e)) (λ _. (e.0, ends-among top new rest end e.1))

length-among : (new : HeldSegment) (held : List HeldSegment) → length (held_among new held) ≡ length held + 1
length-among new [] = omega arith
length-among new (s ∷ rest) =
    cond_both (nat_lt new.at s.at) _ _ (λ l. length l ≡ length (s ∷ rest) + 1) (λ _. omega arith) (λ _. omega (arith, length-among new rest))

-- where these octets stand
pub record LiesBehind (cfg : Cfg) (o : Octets) (w : Connection) : Type 0 where
  pub behind : w.rcv ≤ o.at
  pub some : 0 < length o.bytes
  pub within : o.at + length o.bytes ≤ w.rcv + (cfg.window - w.unread)
  pub place : o.from + length o.bytes < 2 ^ 16

kept-waiting : (cfg : Cfg) (o : Octets) (n : WireNo) (fin : Bool) (w : Connection) → LiesBehind cfg o w → w.rcv < o.at → is_unknown w.state ≡ false → IsKept cfg w → IsKept cfg (waiting o n fin w)
unfolding waiting
kept-waiting cfg o n fin w l hole known k = by_tests (nat_lt (length w.held) 8) (list_all (is_apart o) w.held) refl refl
  where
    by_tests : (a b : Bool) → nat_lt (length w.held) 8 ≡ a → list_all (is_apart o) w.held ≡ b → IsKept cfg (if a && b then record w { held = held_among (record { at = o.at; w = n; from = o.from; bytes = o.bytes; fin = fin }) w.held } else w)
    by_tests true true few apart =
        let room : length w.held < 8 = grind (arith, common_steps, few) in
        record {
          sound = record {
            sender = k.sound.sender;
            receiver = record {
              rising = rising-among (w.rcv + 1) o _ w.held refl refl (omega (arith, hole)) l.some apart k.sound.receiver.rising;
              frames = frames-among _ w.held l.place k.sound.receiver.frames;
              most = omega (arith, length-among (record { at = o.at; w = n; from = o.from; bytes = o.bytes; fin = fin }) w.held, room);
            };
            sizes = k.sound.sizes;
            unknown = k.sound.unknown;
            untouched = λ e. let no : true ≡ false = sym e ∙ known in cc;
            unlost = k.sound.unlost;
            pieces = k.sound.pieces;
          };
          standing = record {
            buffer = record { unread_fits = k.standing.buffer.unread_fits; held_fits = ends-among _ _ w.held l.within k.standing.buffer.held_fits };
            peer = k.standing.peer;
          };
        }
    by_tests true false few apart = k
    by_tests false b few apart = k

-- ## The body
filling-kept : (cfg : Cfg) (w : Connection) → is_unknown w.state ≡ false → IsKept cfg w → IsFilling cfg (w.rcv + (cfg.window - w.unread)) (w.rcv + 1) w.held w
filling-kept cfg w known k =
    record {
      sender = k.sound.sender;
      sizes = k.sound.sizes;
      peer = k.standing.peer;
      known = known;
      pieces = k.sound.pieces;
      space = omega (arith, k.standing.buffer.unread_fits);
      reach = omega arith;
      held = refl;
      ends = k.standing.buffer.held_fits;
      frames = k.sound.receiver.frames;
      rising = k.sound.receiver.rising;
      most = k.sound.receiver.most;
    }

kept-received : (cfg : Cfg) (o : Octets) (w : WireNo) (fin : Bool) (j : Job) → LiesBehind cfg o j.connection → is_unknown j.connection.state ≡ false → IsKept cfg j.connection → IsKept cfg (received cfg o w fin j).0.connection
unfolding received
kept-received cfg o w fin j l known k =
    let P : Job × Bool → Type 0 = λ r. IsKept cfg r.0.connection in
    let within : o.at + length o.bytes ≤ j.connection.rcv + (cfg.window - j.connection.unread) = l.within in
    let place : o.from + length o.bytes < 2 ^ 16 = l.place in
    let behind : j.connection.rcv ≤ o.at = l.behind in
    cond_both (o.at == j.connection.rcv) _ _ P
    (λ next. kept-filled cfg _ _ j.connection.held fin (delivered o w j) (filling-delivered cfg _ _ j.connection.held o w j (grind (arith, common_steps, next)) (omega arith) (filling-kept cfg j.connection known k)))
    (λ later. kept-waiting cfg o w fin j.connection l (grind (arith, common_steps, later)) known k)

pub octets-lie : (cfg : Cfg) (seg : Seg) (w : Connection) → IsFramed seg → w.unread ≤ cfg.window → (length (octets w.rcv (rcv_wnd cfg w) (seq_of w seg.head) seg.head.at seg.body).bytes == 0) ≡ false → LiesBehind cfg (octets w.rcv (rcv_wnd cfg w) (seq_of w seg.head) seg.head.at seg.body) w
unfolding octets
octets-lie cfg seg w framed fits some = by_place (past_of (seq_of w seg.head)) (behind_of (seq_of w seg.head)) some
  where
    by_place : (p b : ℕ) → (length (take (cfg.window - w.unread - p) (drop b seg.body)) == 0) ≡ false → LiesBehind cfg (record { at = w.rcv + p; from = seg.head.at + min b (length seg.body); bytes = take (cfg.window - w.unread - p) (drop b seg.body); whole = nat_le (length seg.body + p) (cfg.window - w.unread + b) }) w
    by_place p b some =
        let cut : length (take (cfg.window - w.unread - p) (drop b seg.body)) ≡ min (cfg.window - w.unread - p) (length (drop b seg.body)) = length-take _ (drop b seg.body) in
        let rest : length (drop b seg.body) ≡ length seg.body - b = length-drop b seg.body in
        let len : length seg.body ≡ seg.head.len = framed.len in
        let place : seg.head.at + seg.head.len ≤ 65535 = framed.place in
        let more : 0 < length (take (cfg.window - w.unread - p) (drop b seg.body)) = grind (arith, common_steps, some) in
        record {
          behind = omega arith;
          some = more;
          within = omega (arith, cut, more);
          place = omega (arith, cut, rest, len, place);
        }

pub takes_body-known : (s : State) → takes_body s ≡ true → is_unknown s ≡ false
takes_body-known st.Listen e = cc
takes_body-known st.SynSent e = cc
takes_body-known st.SynReceived e = cc
takes_body-known _ e = refl

kept-body : (cfg : Cfg) (w : WireNo) (seg : Seg) (j : Job) → IsFramed seg → IsKept cfg j.connection → IsKept cfg (body cfg w seg j).0.connection
unfolding body
kept-body cfg w seg j framed k = by_test (takes_body j.connection.state) refl
  where
    by_test : (a : Bool) → takes_body j.connection.state ≡ a → IsKept cfg (if not a then (j, ends_next seg j.connection) else (let o : Octets = octets j.connection.rcv (rcv_wnd cfg j.connection) (seq_of j.connection seg.head) seg.head.at seg.body in if length o.bytes == 0 then (j, ends_next seg j.connection) else received cfg o w (has_flag seg.head.flags FIN && o.whole) j)).0.connection
    by_test false e = k
    by_test true e =
        let P : Job × Bool → Type 0 = λ r. IsKept cfg r.0.connection in
        let o : Octets = octets j.connection.rcv (rcv_wnd cfg j.connection) (seq_of j.connection seg.head) seg.head.at seg.body in
        cond_both (length o.bytes == 0) _ _ P (λ _. k)
        (λ some. kept-received cfg o w _ j (octets-lie cfg seg j.connection framed k.standing.buffer.unread_fits some) (takes_body-known j.connection.state e) k)

-- ## The FIN
kept-past_fin : (cfg : Cfg) (w : Connection) → IsKept cfg w → IsKept cfg (past_fin w)
kept-past_fin cfg w k =
    record {
      sound = record {
        sender = k.sound.sender;
        receiver = record { rising = tt; frames = tt; most = omega arith };
        sizes = k.sound.sizes;
        unknown = k.sound.unknown;
        untouched = λ _. refl;
        unlost = k.sound.unlost;
        pieces = k.sound.pieces;
      };
      standing = record {
        buffer = record { unread_fits = k.standing.buffer.unread_fits; held_fits = tt };
        peer = k.standing.peer;
      };
    }

kept-fin_taken_in : (s : State) (cfg : Cfg) (now : ℕ) (j : Job) (w : Connection) → w.state ≡ s → IsKept cfg w → IsKept cfg (fin_taken_in s cfg now j w).connection
kept-fin_taken_in st.Established cfg now j w is k =
    kept-tells cfg (on j (record w { state = st.CloseWait })) told.RecvEnd (kept-state cfg w st.CloseWait w.deadline (ap carries is) (ap has_windows is) refl refl (λ _. k.sound.sender.unwanted (ap may_send is)) k)
kept-fin_taken_in st.FinWait1 cfg now j w is k =
    kept-state cfg w st.Closing w.deadline (ap carries is) (ap has_windows is) refl refl (λ e. cc) k
kept-fin_taken_in st.FinWait2 cfg now j w is k =
    kept-state cfg w st.TimeWait (Some (later now cfg.time_wait)) (ap carries is) (ap has_windows is) refl refl (λ e. cc) k
kept-fin_taken_in _ cfg now j w is k = k

kept-finished : (cfg : Cfg) (h : SegHead) (now : ℕ) (stands : Bool) (j : Job) → IsKept cfg j.connection → IsKept cfg (finished cfg h now stands j).connection
unfolding finished fin_taken
kept-finished cfg h now stands j k =
    let P : Job → Type 0 = λ r. IsKept cfg r.connection in
    cond_both stands _ _ P
    (λ _. kept-fin_taken_in j.connection.state cfg now j (past_fin j.connection) refl (kept-past_fin cfg j.connection k))
    (λ _. cond_both (has_flag h.flags FIN && (h.len == 0) && is_past (rcv_nxt j.connection) h.seq) _ _ P (λ _. k) (λ _. k))

pub kept-text_and_fin : (cfg : Cfg) (w : WireNo) (seg : Seg) (now : ℕ) (j : Job) → IsFramed seg → IsKept cfg j.connection → IsKept cfg (text_and_fin cfg w seg now j).connection
unfolding text_and_fin
kept-text_and_fin cfg w seg now j framed k =
    kept-finished cfg seg.head now _ _ (kept-body cfg w seg j framed k)
