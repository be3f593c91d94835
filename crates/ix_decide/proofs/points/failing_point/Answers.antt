use Rattle.std.proofs.lemmas.Result.{IfOk-weaker}
use Rattle.ix_conf.specs.Settings.{settings_of}
use Rattle.ix_pcap.specs.Capture.{frames_of}
use Rattle.ix_decide.proofs.PointLaws.{all-fit, refuses}
use Rattle.ix_decide.proofs.points.failing_point.Goals as goal

pub returns-clause-fits : goal.returns-clause-fits
returns-clause-fits c =
    IfOk-weaker c.first_failing.result _ _ (λ point first.
    all-fit (settings_of c.args.conf.now) (frames_of c.args.bytes.now c.args.capture.now) c.args.wire.now c.args.report.now c.args.file.now point c.head-facts.ensures.facts.report first)
    c.first_failing.ensures

pub returns-clause-refuses : goal.returns-clause-refuses
returns-clause-refuses c =
    IfOk-weaker c.first_failing.result _ _ (λ point first.
    refuses c.readings_fit.ensures (settings_of c.args.conf.now) (frames_of c.args.bytes.now c.args.capture.now) c.args.wire.now c.args.report.now c.args.file.now point first)
    c.first_failing.ensures
