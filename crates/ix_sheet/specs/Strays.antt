-- The lines of strays, each with the number of the reply that answers it.
use Rattle.std.specs.Prelude.{ℕ, ◌==◌, Bool, List, Option, Some, None, count_by, sum_by}
use Rattle.ix_groupdef.specs.declared.types.GroupRecord.{GroupRecord}
use Rattle.ix_groupdef.specs.declared.types.Stray.{Stray}
use Rattle.ix_lines.specs.declared.types.StrayLine.{StrayLine}
use Rattle.ix_playdef.specs.Order.{number_of}
use Rattle.ix_playdef.specs.Placed.{placed}
use Rattle.ix_playdef.specs.Replies.{stray_key}
use Rattle.ix_playdef.specs.declared.order.Reply.{Reply}
use Rattle.ix_playdef.specs.declared.order.ReplyKey.{ReplyKey}
use Rattle.ix_sheet.specs.Lines.{by_place}

abbrev pub reply_number : List Reply → ReplyKey → Option (List ℕ) → Option ℕ
reply_number replies key None = None
reply_number replies key (Some frame) = Some (number_of replies key)

-- the stray with this place among those of its group
abbrev pub stray_line : List Reply → ℕ → ℕ → Stray → StrayLine
stray_line replies group at s =
    record { w = s.w; core = s.core; kind = s.kind; reply = reply_number replies (stray_key group at s.w) s.reply }

abbrev pub group_strays : List Reply → ℕ → GroupRecord → List StrayLine
group_strays replies group r = by_place (stray_line replies group) 0 r.strays

-- those of all groups, group by group
abbrev pub all_strays : List Reply → List GroupRecord → List StrayLine
all_strays replies records = placed (group_strays replies) 0 records

abbrev pub wire_of : StrayLine → ℕ
wire_of l = l.w.0

-- ## How many strays have a wire number
abbrev pub is_stray_at : ℕ → Stray → Bool
is_stray_at w s = s.w.0 == w

abbrev pub strays_at : ℕ → GroupRecord → ℕ
strays_at w r = count_by (is_stray_at w) r.strays

abbrev pub all_strays_at : ℕ → List GroupRecord → ℕ
all_strays_at w records = sum_by (strays_at w) records
