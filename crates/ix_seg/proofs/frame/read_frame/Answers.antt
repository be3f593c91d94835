use Rattle.std.proofs.Common.{◌≡◌, Some, IfOk, subst, sym, ap, ◌∙◌}
use Rattle.std.specs.Prelude.{Result}
use Rattle.ix_base.specs.declared.frame.Disposition.{Disposition}
use Rattle.ix_base.specs.declared.segment.Seg.{Seg}
use Rattle.ix_seg.proofs.OtherLaws.{reads_as}
use Rattle.ix_seg.specs.Frame.{ReadsAs, segment_of_frame, segment_of_view, not_tcp, flow_of_frame}
use Rattle.ix_seg.proofs.FrameLaws.{flow_named}
use Rattle.ix_seg.proofs.frame.read_frame.Goals as goal

pub returns-in-Some-clause-flow : goal.returns-in-Some-clause-flow
unfolding segment_of_frame
returns-in-Some-clause-flow c =
    let a = c.args in
    let read : c.read_ethernet.result ≡ segment_of_frame not_tcp a.local.now a.check a.frame.now =
    c.read_ethernet.ensures ∙ ap (segment_of_view not_tcp a.local.now a.check) c.in-Some.ensures in
    subst (λ (r : Result Seg Disposition). IfOk r (λ s. flow_of_frame a.frame.now ≡ Some s.head.flow)) (sym read)
    (flow_named not_tcp a.local.now a.check a.frame.now)

pub returns-in-Some-clause-other : goal.returns-in-Some-clause-other
unfolding segment_of_frame
returns-in-Some-clause-other c =
    let a = c.args in
    let read : c.read_ethernet.result ≡ segment_of_frame not_tcp a.local.now a.check a.frame.now =
    c.read_ethernet.ensures ∙ ap (segment_of_view not_tcp a.local.now a.check) c.in-Some.ensures in
    λ other. subst (λ (r : Result Seg Disposition). ReadsAs other a.local.now a.check a.frame.now r) (sym read)
    (reads_as other a.local.now a.check a.frame.now)

pub returns-in-None-clause-other : goal.returns-in-None-clause-other
unfolding segment_of_frame
returns-in-None-clause-other c = λ other. ap (segment_of_view other c.args.local.now c.args.check) (sym c.in-None.ensures)
