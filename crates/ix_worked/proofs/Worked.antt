-- A play of a configuration.
use Rattle.std.proofs.Common.{◌≡◌, ℕ, ◌<◌, Bool, true, List, refl, sym, ap, ◌∙◌, subst}
use Rattle.ix_base.specs.declared.id.TheConstants.{FLOW_GROUPS}
use Rattle.ix_mbuf.specs.Buffers.{Buffer}
use Rattle.ix_groupdef.specs.Env.{setting_of}
use Rattle.ix_groupdef.specs.Group.{Cycle, run}
use Rattle.ix_groupdef.specs.Record.{record_of}
use Rattle.ix_groupdef.specs.Setting.{Setting}
use Rattle.ix_lines.specs.declared.types.EntryLine.{EntryLine}
use Rattle.ix_lines.specs.declared.types.SettleLine.{SettleLine}
use Rattle.ix_playdef.specs.Setting.{setting_of_play}
use Rattle.ix_reta.specs.Table.{opening_core}
use Rattle.ix_fits.specs.Connects.{asked_in}
use Rattle.ix_fits.specs.Cutting.{IsCutting, dues}
use Rattle.ix_fits.specs.Fits.{left_by}
use Rattle.ix_fits.specs.Owners.{Play, all_settles}
use Rattle.ix_plainstack.specs.Stack.{Finishes, Stack}
use Rattle.ix_settled.specs.Cuts.{AreCut, GroupsLeave, PlaysAreCut, StandsAt, play_of}
use Rattle.ix_owned.specs.Owned.{SettlesTellOwners}
use Rattle.ix_worked.specs.Worked.{PlaysAreWorked, opening_of}
use Rattle.ix_worked.proofs.Closing.{closed-numbers, closed-records, groups-range}

pub plays-are-worked : PlaysAreCut → GroupsLeave → SettlesTellOwners → PlaysAreWorked
plays-are-worked cuts leave owners s frames r env name unit desks m ms play =
    let p = opening_of s frames env name unit desks in
    let a = cuts p m ms play.opened play.settled play.told in
    let told = owners p m ms play.settled play.agrees play.tells play.kept a in
    record {
      cycles = a.cycles;
      cut = λ g lt. subst (λ (es : List EntryLine). IsCutting s.batch (dues frames g (opening_core s.live g).0 es) (a.cycles g)) (sym play.entries) ((a.groups g lt).all (play.closed g lt));
      owners = record {
        settles = subst (λ (q : Play). all_settles q r.settles ≡ true) (same-play a.cycles) (subst (λ (ls : List SettleLine). all_settles (play_of p m.done a.cycles) ls ≡ true) (sym play.settles) told);
      };
      close = record {
        numbers = λ cores groups out has all. closed-numbers p a.cycles m (stand a) cores has (left_by s frames a.cycles) (λ u. record_of (setting_of env) u.owning.group) (finishing) (leaving a) FLOW_GROUPS refl (groups-range FLOW_GROUPS refl) groups out all;
        records = λ cores groups out has all. closed-records p a.cycles m (stand a) cores has (left_by s frames a.cycles) (λ u. record_of (setting_of env) u.owning.group) (finishing) (leaving a) FLOW_GROUPS refl (groups-range FLOW_GROUPS refl) groups out all;
      };
    }
  where
    stand : (a : AreCut (opening_of s frames env name unit desks) m ms) (g : ℕ) → g < FLOW_GROUPS → StandsAt (opening_of s frames env name unit desks) (a.cycles g) g m
    stand a g lt = (a.groups g lt).each.0

    finishing : (x : Stack) (bufs : List Buffer) (y : Stack) → Finishes x bufs y → record_of (setting_of env) y.owning.group ≡ record_of (setting_of env) x.owning.group
    finishing x bufs y f = ap (λ (z : Stack). record_of (setting_of env) z.owning.group) f.rest

    leaving : (a : AreCut (opening_of s frames env name unit desks) m ms) (g : ℕ) (lt : g < FLOW_GROUPS) → record_of (setting_of env) (stand a g lt).unit.owning.group ≡ left_by s frames a.cycles g
    leaving a g lt =
        leave (opening_of s frames env name unit desks) (a.cycles g) m g (stand a g lt) (a.groups g lt).last
        ∙ ap (λ (z : Setting). record_of z (run z (asked_in (setting_of_play s frames) s g) (a.cycles g))) play.env_is.setting

    same-play : (cycles : ℕ → List Cycle) → play_of (opening_of s frames env name unit desks) m.done cycles ≡ Rattle.ix_fits.specs.Fits.play_of s frames r cycles
    same-play cycles =
        ap (λ (z : Setting). (let q : Play = record { env = z; whole = Rattle.ix_groupdef.specs.Owners.sends_parts env.app; entries = m.done; asked = asked_in (setting_of_play s frames) s; cycles = cycles } in q)) play.env_is.setting
        ∙ ap (λ (b : Bool). (let q : Play = record { env = setting_of_play s frames; whole = b; entries = m.done; asked = asked_in (setting_of_play s frames) s; cycles = cycles } in q)) play.env_is.whole
        ∙ ap (λ (es : List EntryLine). (let q : Play = record { env = setting_of_play s frames; whole = Rattle.ix_groupdef.specs.Owners.sends_parts (Rattle.ix_playdef.specs.Setting.application_of s.app s.text); entries = es; asked = asked_in (setting_of_play s frames) s; cycles = cycles } in q)) (sym play.entries)
