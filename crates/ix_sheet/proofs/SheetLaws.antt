-- What a sheet keeps that is made of an outcome.
use Rattle.std.proofs.Common.{ℕ, ◌+◌, sym, ap, subst, ◌∙◌, List, length, arith}
use Rattle.std.specs.Prelude.{All}
use Rattle.std.specs.List.{AllByRecursion}
use Rattle.std.proofs.lemmas.List.Elements.{All-from_recursion, All-weaker}
use Rattle.ix_lines.specs.declared.types.Head.{Head}
use Rattle.ix_lines.specs.declared.types.SettleLine.{SettleLine}
use Rattle.ix_playdef.specs.declared.order.Reply.{Reply}
use Rattle.ix_trace.specs.Rule.{IsValue}
use Rattle.ix_trace.specs.Sheet.{IsFull, IsReport, count_settles}
use Rattle.ix_trace.specs.declared.sheet.Sheet.{Sheet}
use Rattle.ix_sheet.specs.Outcome.{CanBeReported, HasGroup}
use Rattle.ix_sheet.specs.Ranges.{FitsSheet, IsInGroup}
use Rattle.ix_sheet.specs.Sheet.{IsSheetOf}
use Rattle.ix_sheet.specs.declared.outcome.Outcome.{Outcome}
use Rattle.ix_sheet.proofs.ConnLaws.{IsBelow, all_below, never_fall}
use Rattle.ix_sheet.proofs.RangeLaws.{sheet-fits}
use Rattle.ix_sheet.proofs.StrayLaws.{strays-rise}

module _ (head : Head) (o : Outcome) (replies : List Reply) (r : Sheet) (can : CanBeReported head.cores o) (is : IsSheetOf head o replies r) where
  pub entries-in_groups : All HasGroup r.entries
  entries-in_groups = subst (All HasGroup) (sym is.entries) can.in_groups

  pub conns-in_groups : All IsInGroup r.conns
  conns-in_groups =
      All-weaker (IsBelow 512) IsInGroup (λ l lt. omega (arith, lt)) r.conns
      (All-from_recursion (IsBelow 512) r.conns (all_below o.entries replies 512 0 o.groups r.conns (omega (arith, can.groups)) is.conns))

  pub sheet-report : IsReport r
  sheet-report =
      record {
        full = subst (λ (cores : ℕ). AllByRecursion (IsFull cores) r.settles) (sym (ap (λ (h : Head). h.cores) is.head_is)) (subst (AllByRecursion (IsFull head.cores)) (sym is.settles) can.full);
        count = ap (λ (ss : List SettleLine). length ss) is.settles ∙ can.count ∙ ap (λ es. count_settles es + 1) (sym is.entries);
        rise = strays-rise replies o.groups r.strays can.apart is.strays is.rising;
        groups = never_fall o.entries replies 0 o.groups r.conns is.conns;
        closed = ap (λ (ns : List ℕ). length ns) is.closed ∙ can.closed ∙ sym (ap (λ (h : Head). h.cores) is.head_is);
      }

  pub sheet-value : FitsSheet r → IsValue r
  sheet-value fits = record { report = sheet-report; fits = sheet-fits r sheet-report fits }

pub ruleset for_sheet = (entries-in_groups)

pub ruleset for_report = (entries-in_groups, conns-in_groups, sheet-value)
