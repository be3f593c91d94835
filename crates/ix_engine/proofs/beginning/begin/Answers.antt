use Rattle.std.proofs.Common.{◌≡◌, ap, arith, count_by, subst, ◌∙◌, ℕ, List}
use Rattle.ix_conf.specs.Settings.{settings_of}
use Rattle.ix_feed.specs.Replays.{ReplayView, is_move}
use Rattle.ix_groupdef.specs.Env.{setting_of}
use Rattle.ix_pcap.specs.Capture.{frames_of}
use Rattle.ix_playdef.specs.Setting.{setting_of_play}
use Rattle.ix_engine.specs.Openings.{IsOpen}
use Rattle.ix_engine.proofs.Begins.{first_feeds, opened_as}
use Rattle.ix_engine.proofs.beginning.begin.Goals as goal

pub new-requires-clause-entries : goal.new-requires-clause-entries
new-requires-clause-entries c = c.requires.wire.is.so_far.count

pub open-requires : goal.open-requires
open-requires c =
    let moves : c.moves.result ≡ count_by is_move c.args.entries.items = c.moves.ensures ∙ ap (λ (r : ReplayView). count_by is_move r.entries) c.in_ok-replay.ensures in
    omega (arith, moves, c.wires_can_be_fed.ensures.turns c.requires.wire.terms c.args.entries.items c.requires.wire.is)

pub set_out-requires : goal.set_out-requires
set_out-requires c =
    let opening = c.in_ok-nic.ensures in
    record {
      some = omega (arith, opening.cores_are.count, opening.count, c.args.conf.now.cores_range.0);
      ready = c.openings_are_ready.ensures 256 _ _ _ _ opening.ports opening.order opening.fresh (opened_as _ _ _ _ opening.cores_are);
    }

pub returns : goal.returns
returns c =
    let settings = settings_of c.args.conf.now in
    let frames = frames_of c.args.bytes c.args.capture in
    let moves : c.moves.result ≡ count_by is_move c.args.entries.items = c.moves.ensures ∙ ap (λ (r : ReplayView). count_by is_move r.entries) c.in_ok-replay.ensures in
    let opening : IsOpen settings (count_by is_move c.args.entries.items) c.in_ok-nic.nic c.in_ok-nic.cores.items =
    subst (λ (n : ℕ). IsOpen settings n c.in_ok-nic.nic c.in_ok-nic.cores.items) moves c.in_ok-nic.ensures in
    let out = c.in_ok-connects.ensures in
    record {
      begun = record {
        env_is = subst (λ (b : List ℕ). setting_of c.in_ok-env.env ≡ setting_of_play settings (frames_of b c.args.capture)) c.as_slice.ensures c.in_ok-env.ensures.setting;
        card = c.in_ok-nic.nic;
        cores = c.in_ok-nic.cores.items;
        opens = opening;
        dialed = out.sets_out.dialed;
        dials = out.sets_out.dials;
        settled = out.sets_out.settled;
        replay = c.in_ok-replay.ensures;
      };
      can = record {
        ready = out.ready;
        some = omega (arith, out.count, opening.cores_are.count, opening.count, c.args.conf.now.cores_range.0);
        feed = λ lt.
            first_feeds c.wires_can_be_fed.ensures.feeds settings frames c.args.entries.items c.requires.wire c.in_ok-nic.nic c.set_out.new.nic c.in_ok-nic.cores.items c.set_out.new.cores.items
            c.in_ok-replay.replay opening out.table out.ready.order.count out.count out.clear c.in_ok-replay.ensures;
      };
      whole = c.in_ok-env.ensures.whole;
    }
