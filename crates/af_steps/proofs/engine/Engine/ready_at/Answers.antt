use Rattle.std.proofs.Common.{rules, ◌≡◌, sym, ap, ◌∙◌, subst}
use Rattle.std.specs.Prelude.{Some, option_map}
use Rattle.af_base.specs.Pass.{Machine}
use Rattle.af_base.specs.Ready.{ready, ready_of}
use Rattle.af_base.specs.Refusals.{socket_at}
use Rattle.af_steps.proofs.LookupRows.{file-is}
use Rattle.af_steps.proofs.engine.Engine.ready_at.Goals as goal

pub returns : goal.returns
returns c =
    let w = c.self.inside.store.world in
    let f = c.args.file.now in
    let x = c.in-Some.socket in
    let found : socket_at w f ≡ Some x = search rules in
    subst (λ (m : Machine). ready m.world f
    ≡ Some (record {
      readable = c.is_readable.result;
      writable = c.is_writable.result;
      hung_up = c.is_cut_off.result;
    })) c.self.view_is
    (ap (option_map (ready_of w.files f)) (file-is w f x found)
    ∙ (λ i. Some (record {
      readable = sym c.is_readable.ensures i;
      writable =
          sym c.is_writable.ensures i;
      hung_up = sym c.is_cut_off.ensures i;
    })))
