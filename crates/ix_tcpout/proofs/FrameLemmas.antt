-- Segments over numbers are the frames of the connection that the numbers stand for.
use Rattle.std.proofs.Common.{◌≡◌, ℕ, ◌+◌, ◌-◌, ◌<◌, ◌≤◌, List, [], length, take, drop, arith, refl, ◌∙◌, length-take, length-drop}
use Rattle.std.specs.Prelude.{◌==◌, min}
use Rattle.std.proofs.lemmas.Grind.{common_steps}
use Rattle.ix_tcpdef.specs.Frames.{plain_frame, data_frame}
use Rattle.ix_tcpdef.specs.declared.types.Cfg.{Cfg}
use Rattle.ix_tcpdef.specs.declared.types.Connection.{Connection}
use Rattle.ix_tcpdef.specs.Stands.{tcb_of, send_queue}
use Rattle.ix_tcpout.proofs.NumberLemmas.{goes_on}
use Rattle.ix_tcpout.specs.Heads.{bare, bytes}
use Rattle.ix_tcpout.specs.Given.{frame_of}

pub frame_bare : (cfg : Cfg) (w : Connection) (queue : List ℕ) (seq flags : ℕ) → frame_of queue (bare cfg (tcb_of w) seq flags) ≡ plain_frame cfg w seq flags []
frame_bare cfg w queue seq flags = refl

-- the bytes from this place on are those that end the queue exactly where the frame's end the stream
ends_queue : (given una from n : ℕ) → 1 ≤ una → 0 < n → una + from + n ≤ given + 1 → (from + n == given - min (una - 1) given) ≡ (una + from + n == given + 1)
ends_queue given una from n least some within = grind (arith, common_steps)

pub frame_bytes : (cfg : Cfg) (w : Connection) (from n : ℕ) (body : List ℕ) → 1 ≤ w.una → 0 < n → w.una + from + n ≤ length w.sent + 1 → body ≡ take n (drop from (send_queue w)) → frame_of (send_queue w) (bytes cfg (tcb_of w) from n) ≡ data_frame cfg w (w.una + from) body
frame_bytes cfg w from n body least some within is =
    let queue : List ℕ = send_queue w in
    let rest : length (drop from queue) ≡ length queue - from = length-drop from queue in
    let all : length queue ≡ length w.sent - (w.una - 1) = length-drop (w.una - 1) w.sent in
    let len : length (take n (drop from queue)) ≡ n = length-take n (drop from queue) ∙ omega (arith, rest, all) in
    let span : (from + n) - from ≡ n = omega arith in
    rw (is, len, span, ends_queue (length w.sent) w.una from n least some within, goes_on w.iss w.una from) refl
