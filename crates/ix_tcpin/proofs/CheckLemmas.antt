-- The first checks of a segment over numbers stand for those of the connection.
use Rattle.std.proofs.Common.{ℕ, Bool, true, false, if◌then◌else◌, List, [], ◌∷◌, ◌++◌, refl, ap, ◌∙◌}
use Rattle.std.specs.Prelude.{◌&&◌, ◌==◌, not, Some}
use Rattle.ix_base.specs.declared.id.WireNo.{WireNo}
use Rattle.ix_base.specs.declared.segment.Seg.{Seg}
use Rattle.ix_base.specs.declared.segment.SegHead.{SegHead}
use Rattle.ix_base.specs.Flags.{has_flag}
use Rattle.ix_tcpdef.specs.Ticks.{later}
use Rattle.ix_tcpdef.specs.Connection.{seq_of, rcv_wnd, rcv_nxt, is_syn_received, is_time_wait, on, gives, ended}
use Rattle.ix_tcpdef.specs.Frames.{ack_frame}
use Rattle.ix_tcpdef.specs.Arrival.{Goes, Stops, span, is_acceptable, acceptability, reset, synchronize, unacknowledged}
use Rattle.ix_tcpdef.specs.declared.types.Cfg.{Cfg}
use Rattle.ix_tcpdef.specs.declared.types.Connection.{Connection}
use Rattle.ix_tcpdef.specs.declared.types.Job.{Job}
use Rattle.ix_tcpdef.specs.declared.types.Output.{Output}
use Rattle.ix_tcpdef.specs.declared.types.Output.TheVariants as outputs
use Rattle.ix_tcpdef.specs.declared.types.Told.{Told}
use Rattle.ix_tcpdef.specs.declared.types.Told.TheVariants as told
use Rattle.ix_base.specs.declared.segment.TheConstants.{ACK, FIN, RST, SYN}
use Rattle.ix_tcpdef.specs.Stands.{tcb_of}
use Rattle.ix_tcpin.specs.Heads.{ack_head}
use Rattle.ix_tcpin.specs.Work as at_work
use Rattle.ix_tcpin.specs.Work.{Onward, Done, replies, ends}
use Rattle.ix_tcpin.specs.Checks.{acceptability_part, reset_part, synchronize_part, unacknowledged_part}
use Rattle.ix_tcpin.proofs.Relation.{at, Agrees, Says, Leads, IsSame, first-more, last-more, says-answered, says-nothing, says-ended}

-- an acknowledgement is sent at once
pub says-ack : (cfg : Cfg) (w : Connection) (n : WireNo) (seg : Seg) (j : Job) (es : List Told) → Agrees w j es → Says w n seg (replies (at w j es) (ack_head cfg (tcb_of j.connection))) (gives j (ack_frame cfg j.connection))
says-ack cfg w n seg j es a = says-answered w n seg j es j.connection (Some (ack_head cfg (tcb_of j.connection))) a a.same a.alive refl

pub leads-acceptability : (cfg : Cfg) (h : SegHead) (now : ℕ) (w : Connection) (n : WireNo) (seg : Seg) (j : Job) (es : List Told) → Agrees w j es → Leads (IsSame (at w j es) j) (Says w n seg) (acceptability_part cfg h now (at w j es)) (acceptability cfg h now j)
unfolding acceptability_part acceptability
leads-acceptability cfg h now w n seg j es a =
    by_tests (is_acceptable (span h) (rcv_wnd cfg j.connection) (seq_of j.connection h)) (has_flag h.flags RST) (has_flag h.flags FIN && is_time_wait j.connection.state)
  where
    waits : Connection
    waits = record j.connection { deadline = Some (later now cfg.time_wait) }

    by_tests : (a b c : Bool) → Leads (IsSame (at w j es) j) (Says w n seg) (if a then Onward (at w j es) else if b then Done (at w j es) else if c then Done (replies (at_work.on (at w j es) (tcb_of (record j.connection { deadline = Some (later now cfg.time_wait) }))) (ack_head cfg (tcb_of j.connection))) else Done (replies (at w j es) (ack_head cfg (tcb_of j.connection)))) (if a then Goes j else if b then Stops j else if c then Stops (gives (on j (record j.connection { deadline = Some (later now cfg.time_wait) })) (ack_frame cfg j.connection)) else Stops (gives j (ack_frame cfg j.connection)))
    by_tests true b c = record { work = refl; job = refl }
    by_tests false true c = says-nothing w n seg j es a
    by_tests false false true =
        says-answered w n seg j es (record j.connection { deadline = Some (later now cfg.time_wait) }) (Some (ack_head cfg (tcb_of j.connection))) a (record { pieces = a.same.pieces; held = a.same.held; rcv = a.same.rcv; irs = a.same.irs; accepted = a.same.accepted }) a.alive refl
    by_tests false false false = says-ack cfg w n seg j es a

pub leads-reset : (cfg : Cfg) (h : SegHead) (w : Connection) (n : WireNo) (seg : Seg) (j : Job) (es : List Told) → Agrees w j es → Leads (IsSame (at w j es) j) (Says w n seg) (reset_part cfg h (at w j es)) (reset cfg h j)
unfolding reset_part reset
leads-reset cfg h w n seg j es a = by_tests (has_flag h.flags RST) (h.seq == rcv_nxt j.connection) (j.connection.accepted && not j.connection.shut)
  where
    by_tests : (a b c : Bool) → Leads (IsSame (at w j es) j) (Says w n seg) (if not a then Onward (at w j es) else if b then Done (if c then at_work.announces (ends (at w j es)) told.DeadReset else ends (at w j es)) else Done (replies (at w j es) (ack_head cfg (tcb_of j.connection)))) (if not a then Goes j else if b then Stops (if c then gives (on j (ended j.connection)) (outputs.Told told.DeadReset) else on j (ended j.connection)) else Stops (gives j (ack_frame cfg j.connection)))
    by_tests false b c = record { work = refl; job = refl }
    by_tests true false c = says-ack cfg w n seg j es a
    by_tests true true true =
        says-ended w n seg j es (es ++ told.DeadReset ∷ []) (j.outputs ++ outputs.Told told.DeadReset ∷ []) a (first-more es told.DeadReset refl ∙ ap (λ (l : List Output). l ++ outputs.Told told.DeadReset ∷ []) a.first) (last-more es told.DeadReset refl ∙ a.last)
    by_tests true true false = says-ended w n seg j es es j.outputs a a.first a.last

pub leads-synchronize : (cfg : Cfg) (h : SegHead) (w : Connection) (n : WireNo) (seg : Seg) (j : Job) (es : List Told) → Agrees w j es → Leads (IsSame (at w j es) j) (Says w n seg) (synchronize_part cfg h (at w j es)) (synchronize cfg h j)
unfolding synchronize_part synchronize
leads-synchronize cfg h w n seg j es a = by_tests (has_flag h.flags SYN) (is_syn_received j.connection.state)
  where
    by_tests : (a b : Bool) → Leads (IsSame (at w j es) j) (Says w n seg) (if not a then Onward (at w j es) else if b then Done (ends (at w j es)) else Done (replies (at w j es) (ack_head cfg (tcb_of j.connection)))) (if not a then Goes j else if b then Stops (on j (ended j.connection)) else Stops (gives j (ack_frame cfg j.connection)))
    by_tests false b = record { work = refl; job = refl }
    by_tests true true = says-ended w n seg j es es j.outputs a a.first a.last
    by_tests true false = says-ack cfg w n seg j es a

pub leads-unacknowledged : (h : SegHead) (w : Connection) (n : WireNo) (seg : Seg) (j : Job) (es : List Told) → Agrees w j es → Leads (IsSame (at w j es) j) (Says w n seg) (unacknowledged_part h (at w j es)) (unacknowledged h j)
unfolding unacknowledged_part unacknowledged
leads-unacknowledged h w n seg j es a = by_test (has_flag h.flags ACK)
  where
    by_test : (a : Bool) → Leads (IsSame (at w j es) j) (Says w n seg) (if a then Onward (at w j es) else Done (at w j es)) (if a then Goes j else Stops j)
    by_test true = record { work = refl; job = refl }
    by_test false = says-nothing w n seg j es a
