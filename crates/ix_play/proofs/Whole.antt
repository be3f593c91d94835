-- What a play leaves that ran is what a whole play leaves.
use Rattle.std.proofs.Common.{◌≡◌, ◌<◌, ◌^◌, ℕ, List, Result, Ok, Err, IfOk, length, ap, subst, sym, arith}
use Rattle.std.specs.List.{AllByRecursion, range_with_len}
use Rattle.ix_appdef.specs.declared.application.Application.{Application}
use Rattle.ix_conf.specs.Settings.{Settings, settings_of}
use Rattle.ix_conf.specs.declared.settings.Conf.{Conf}
use Rattle.ix_groupdef.specs.declared.env.Env.{Env}
use Rattle.ix_groupdef.specs.declared.types.GroupRecord.{GroupRecord}
use Rattle.ix_groupdef.specs.Owners.{sends_parts}
use Rattle.ix_lines.specs.declared.types.ConnectLine.{ConnectLine}
use Rattle.ix_lines.specs.declared.types.EntryLine.{EntryLine}
use Rattle.ix_lines.specs.declared.types.SettleLine.{SettleLine}
use Rattle.ix_nic.specs.Cards.{CardView}
use Rattle.ix_core.specs.Closing.{CanClose}
use Rattle.ix_fits.specs.Fits.{Fits}
use Rattle.ix_fits.specs.Replies.{AreReplies, reply_file}
use Rattle.ix_playdef.specs.Order.{numbers_among}
use Rattle.ix_playdef.specs.Own.{local_of}
use Rattle.ix_playdef.specs.Replies.{by_opening}
use Rattle.ix_playdef.specs.Setting.{application_of}
use Rattle.ix_playdef.specs.Sound.{AreBytes}
use Rattle.ix_playdef.specs.declared.order.Reply.{Reply}
use Rattle.ix_sheet.specs.Outcome.{CanBeReported}
use Rattle.ix_sheet.specs.Sheet.{IsSheetOf, head_of}
use Rattle.ix_sheet.specs.declared.outcome.Outcome.{Outcome}
use Rattle.ix_trace.specs.declared.sheet.Sheet.{Sheet}
use Rattle.ix_wire.specs.declared.entry.Entry.{Entry}
use Rattle.ix_engine.specs.Courses.{HasRun, IsWireFor}
use Rattle.ix_engine.specs.Openings.{StackCore}
use Rattle.ix_engine.specs.Steps.{Engine, HaveMet}
use Rattle.ix_begun.specs.Begun.{IsInRange}
use Rattle.ix_entire.specs.Entire.{IsEntire, RunsAreWhole, RunsCanClose, outcome_of}
use Rattle.ix_whole.specs.Whole.{WholesAreReported, WholesFit}
use Rattle.ix_worked.specs.Worked.{IsEnvOf}
use Rattle.ix_play.specs.Play.{Leaves}

-- the numbers of a configuration are within their ranges
in-range : (conf : Conf) → IsInRange (settings_of conf)
in-range conf = record { some = conf.live_range.0; live = conf.live_range.1; cores = conf.cores_range.1; buffers = omega (arith, conf.buffers_range.1) }

env-of : (conf : Conf) (frames : List (List ℕ)) (entries : List Entry) (env : Env Application) (connects : List ConnectLine) (settles : List SettleLine) (y : Engine)
    → HasRun (settings_of conf) frames entries env connects settles y → sends_parts env.app ≡ sends_parts (application_of conf.app conf.text) → IsEnvOf (settings_of conf) frames env
env-of conf frames entries env connects settles y ran parts = record { setting = ran.begins.env_is; whole = parts }

pub can_close : RunsCanClose → (conf : Conf) (frames : List (List ℕ)) (entries : List Entry) (env : Env Application) (connects : List ConnectLine) (settles : List SettleLine) (y : Engine)
    → IsWireFor (settings_of conf) frames entries → HasRun (settings_of conf) frames entries env connects settles y
    → sends_parts env.app ≡ sends_parts (application_of conf.app conf.text) → (card : CardView) (cores : List StackCore) → HaveMet y.card card y.cores cores → CanClose card cores
can_close closes conf frames entries env connects settles y wire ran parts card cores met =
    closes (settings_of conf) frames entries env connects settles y card cores (in-range conf) (env-of conf frames entries env connects settles y ran parts) wire ran met

pub is_entire : RunsAreWhole → (conf : Conf) (frames : List (List ℕ)) (entries : List Entry) (env : Env Application) (connects : List ConnectLine) (settles : List SettleLine) (y : Engine) (o : Outcome)
    → IsWireFor (settings_of conf) frames entries → HasRun (settings_of conf) frames entries env connects settles y
    → sends_parts env.app ≡ sends_parts (application_of conf.app conf.text) → Leaves env connects settles y o → IsEntire (settings_of conf) frames entries env o
is_entire whole conf frames entries env connects settles y o wire ran parts left =
    subst (λ (z : Outcome). IsEntire (settings_of conf) frames entries env z) (sym left.is)
    (whole (settings_of conf) frames entries env connects settles y left.card left.card_closed left.cores left.cores_closed left.groups left.pools (in-range conf)
    (env-of conf frames entries env connects settles y ran parts) wire ran left.met left.closed)

-- so it can be reported
pub can_report : WholesAreReported → (conf : Conf) (frames : List (List ℕ)) (entries : List Entry) (env : Env Application) (o : Outcome) → length conf.mac ≡ 6 → AllByRecursion AreBytes frames
    → IsWireFor (settings_of conf) frames entries → IsEntire (settings_of conf) frames entries env o → CanBeReported conf.cores o
can_report reported conf frames entries env o mac bytes wire e = reported conf frames wire.terms entries env e.name e.unit e.desks e.m e.ms o mac bytes wire.is.so_far e.whole

-- and its report fits
pub report_fits : WholesFit → (conf : Conf) (frames : List (List ℕ)) (entries : List Entry) (env : Env Application) (o : Outcome) → length conf.mac ≡ 6 → AllByRecursion AreBytes frames
    → IsWireFor (settings_of conf) frames entries → IsEntire (settings_of conf) frames entries env o → (r : Sheet) (replies : List Reply) → IsSheetOf (head_of (settings_of conf)) o replies r
    → AreReplies by_opening (local_of (settings_of conf)) o.groups replies → numbers_among replies replies ≡ range_with_len 0 (length replies) → Fits (settings_of conf) frames entries r (reply_file entries replies)
report_fits fit conf frames entries env o mac bytes wire e r replies sheet are numbers =
    fit conf frames wire.terms entries env e.name e.unit e.desks e.m e.ms o mac bytes wire.is.so_far e.whole replies r are numbers sheet

-- what three facts of an answer give
pub if_ok_three : {T E : Type 0} (r : Result T E) (P Q S R : T → Type 0) → ((x : T) → P x → Q x → S x → R x) → IfOk r P → IfOk r Q → IfOk r S → IfOk r R
if_ok_three (Ok x) P Q S R gives p q s = gives x p q s
if_ok_three (Err e) P Q S R gives p q s = p

-- what is left, with the lines of the card's side
pub left_with : (connects : List ConnectLine) (settles : List SettleLine) (y : Engine) (groups : List GroupRecord) (pools : List ℕ) (lines : List EntryLine) → lines ≡ y.replay.lines
    → ◌≡◌ {A = Outcome} (record { settles = settles; connects = connects; entries = lines; groups = groups; closed = pools }) (outcome_of connects settles y groups pools)
left_with connects settles y groups pools lines are =
    ap (λ (es : List EntryLine). (let o : Outcome = record { settles = settles; connects = connects; entries = es; groups = groups; closed = pools } in o)) are
