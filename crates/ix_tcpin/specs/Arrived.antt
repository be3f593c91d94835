-- Arrival of a segment over numbers.
use Rattle.std.specs.Prelude.{ℕ}
use Rattle.ix_base.specs.declared.segment.SegHead.{SegHead}
use Rattle.ix_tcpdef.specs.declared.types.Cfg.{Cfg}
use Rattle.ix_tcpdef.specs.declared.types.State.{State}
use Rattle.ix_tcpdef.specs.declared.types.State.TheVariants as st
use Rattle.ix_tcpin.specs.Work.{Work, Course, Onward, along, work_of}
use Rattle.ix_tcpin.specs.Checks.{acceptability_part, reset_part, synchronize_part, unacknowledged_part}
use Rattle.ix_tcpin.specs.Acknowledgement.{acknowledgement_part}
use Rattle.ix_tcpin.specs.Text.{text_part}
use Rattle.ix_tcpin.specs.Opening.{opening_part, syn_sent_part}

-- A segment in SYN-RECEIVED and later, check by check.
unfoldable pub checked_part : Cfg → SegHead → ℕ → Work → Course
checked_part cfg h now k =
    along (acceptability_part cfg h now k)
    (λ k. along (reset_part cfg h k)
    (λ k. along (synchronize_part cfg h k)
    (λ k. along (unacknowledged_part h k)
    (λ k. along (acknowledgement_part cfg h now k)
    (λ k. Onward (text_part cfg h now k))))))

abbrev pub arrived_part_in : State → Cfg → SegHead → ℕ → Work → Work
arrived_part_in st.Closed cfg h now k = k
arrived_part_in st.Listen cfg h now k = opening_part cfg h now k
arrived_part_in st.SynSent cfg h now k = syn_sent_part cfg h k
arrived_part_in _ cfg h now k = work_of (checked_part cfg h now k)

unfoldable pub arrived_part : Cfg → SegHead → ℕ → Work → Work
arrived_part cfg h now k = arrived_part_in k.numbers.state cfg h now k
