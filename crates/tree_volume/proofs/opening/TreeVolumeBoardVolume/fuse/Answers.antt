use Rattle.epoch.proofs.KeepLemmas.{held_same, in_use_same, steady_read}
use Rattle.epoch.proofs.MountLemmas.{after_order, before_above, past_above}
use Rattle.epoch.proofs.PastLemmas.{passed}
use Rattle.v1_volume.specs.Frame.{volume_framed}
use Rattle.tree_paths.specs.Form.{form_root}
use Rattle.v1_volume.specs.Versions.{volume_form}
use Rattle.tree_volume.proofs.AnewLemmas.{anew_before}
use Rattle.tree_volume.proofs.opening.TreeVolumeBoardVolume.fuse.Goals as goal

pub returns-clause-same : goal.returns-clause-same
returns-clause-same g c is =
    let v = g.B.Board.view c.args.self.now.board in
    let n = g.B.Board.view c.fuse.new.self in
    let step = c.fuse.ensures.honest is.0 in
    let key = c.fuse.ensures.ordered.key in
    let root = c.args.self.now.root in
    record {
      honest = (
        step.0,
        λ live. in_use_same volume_form volume_framed v n (form_root root) c.args.self.now.sequence key step.2 (is.1 live),
        steady_read volume_form volume_framed v n (form_root root) key step.2 is.2,
        anew_before v n key (after_order volume_form v n step.1 step.2) is.3,
      );
      same = held_same volume_form volume_framed v n (form_root root) c.args.self.now.sequence key step.2.reads;
      leaves = record {
        crash = before_above volume_form (λ x. g.B.Board.view x.board) _ _ key (after_order volume_form v n step.1 step.2);
        past = past_above volume_form v n key (passed v n step.1);
      };
    }
