use Rattle.std.proofs.Common.{◌≡◌, length, rules, subst, ℕ, List}
use Rattle.std.specs.List.{AllByRecursion, range_with_len}
use Rattle.ix_conf.specs.Settings.{settings_of}
use Rattle.ix_fits.specs.Fits.{Fits}
use Rattle.ix_fits.specs.Replies.{AreReplies, reply_file}
use Rattle.ix_pcap.specs.Capture.{frames_of}
use Rattle.ix_playdef.specs.Order.{numbers_among}
use Rattle.ix_playdef.specs.Own.{local_of}
use Rattle.ix_playdef.specs.Replies.{by_opening}
use Rattle.ix_playdef.specs.Sound.{AreBytes}
use Rattle.ix_sheet.specs.Sheet.{IsSheetOf, head_of}
use Rattle.ix_engine.specs.Courses.{engine_of}
use Rattle.ix_play.proofs.Whole.{can_close, can_report, if_ok_three, is_entire, report_fits}
use Rattle.ix_play.proofs.playing.play.Goals as goal

pub close-requires : goal.close-requires
close-requires g c =
    let ran = c.in_ok-ran.ensures in
    record {
      order = ran.can.ready.order;
      can = can_close c.runs_are_whole.ensures.close c.args.conf.now _ _ _ _ _ (engine_of c.in_ok-ran.ran.machine) c.requires.wire ran.run ran.whole;
    }

pub report_of-requires : goal.report_of-requires
report_of-requires g c =
    let ran = c.in_ok-ran.ensures in
    let entire = is_entire c.runs_are_whole.ensures.whole c.args.conf.now _ _ _ _ _ (engine_of c.in_ok-ran.ran.machine) _ c.requires.wire ran.run ran.whole c.in_ok-outcome.ensures in
    let bytes : AllByRecursion AreBytes (frames_of c.args.bytes c.args.capture) =
    subst (λ (b : List ℕ). AllByRecursion AreBytes (frames_of b c.args.capture)) c.as_slice.ensures c.frames_are_bytes.ensures in
    can_report c.plays_fit.ensures.reported c.args.conf.now _ _ _ _ c.has_mac.ensures bytes c.requires.wire entire

pub returns-clause-fits : goal.returns-clause-fits
returns-clause-fits g c =
    let conf = c.args.conf.now in
    let s = settings_of conf in
    let frames = frames_of c.args.bytes c.args.capture in
    let entries = c.args.entries.items in
    let outcome = c.in_ok-outcome.outcome in
    let ran = c.in_ok-ran.ensures in
    let entire = is_entire c.runs_are_whole.ensures.whole conf _ _ _ _ _ (engine_of c.in_ok-ran.ran.machine) _ c.requires.wire ran.run ran.whole c.in_ok-outcome.ensures in
    let bytes : AllByRecursion AreBytes (frames_of c.args.bytes c.args.capture) =
    subst (λ (b : List ℕ). AllByRecursion AreBytes (frames_of b c.args.capture)) c.as_slice.ensures c.frames_are_bytes.ensures in
    if_ok_three c.report_of.result (λ told. IsSheetOf (head_of s) outcome told.1.items told.0) (λ told. AreReplies by_opening (local_of s) outcome.groups told.1.items)
    (λ told. numbers_among told.1.items told.1.items ≡ range_with_len 0 (length told.1.items)) (λ told. Fits s frames entries told.0 (reply_file entries told.1.items))
    (λ told sheet replies numbered. report_fits c.plays_fit.ensures.fit conf frames entries _ outcome c.has_mac.ensures bytes c.requires.wire entire told.0 told.1.items sheet replies numbered)
    c.report_of.ensures.sheet c.report_of.ensures.replies c.report_of.ensures.numbered
