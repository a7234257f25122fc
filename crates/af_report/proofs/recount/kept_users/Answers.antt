use Rattle.std.proofs.Common.{rules, ◌≡◌, ◌≤◌, ◌∷◌, ◌++◌, [], length, map, sym, ap, ◌∙◌, subst, arith}
use Rattle.std.specs.List.{All}
use Rattle.std.proofs.lemmas.List.{map-append}
use Rattle.std.proofs.lemmas.List.Elements.{All-push}
use Rattle.af_plain.specs.Agreement.{IsUserRecount}
use Rattle.af_report.proofs.UserLines.{user_more, users_done}
use Rattle.af_report.proofs.recount.kept_users.Goals as goal

pub loop-i-preserved : goal.loop-i-preserved
loop-i-preserved c =
    let w = c.args.engine.now.world in
    let more : c.push.new.self.items ≡ c.loop-i.users.items ++ record { user = c.unwrap-user.result; charged = c.charged.result } ∷ [] = search rules in
    record {
      recounts = subst (λ xs. All (IsUserRecount w) xs) (sym more) (All-push (IsUserRecount w) c.loop-i.users.items _ c.loop-i.invariant.recounts (search rules));
      so_far = user_more w.users (map (λ k. k.user) c.loop-i.users.items) (map (λ k. k.user) c.push.new.self.items) c.loop-i.i c.unwrap-user.result (search rules)
          (ap (map (λ k. k.user)) more ∙ map-append (λ k. k.user) c.loop-i.users.items _) c.loop-i.invariant.so_far;
    }

pub returns-clause-all : goal.returns-clause-all
returns-clause-all c =
    let w = c.args.engine.now.world in
    let past : length w.users ≤ c.loop-i.i = omega arith in
    users_done w.users (map (λ k. k.user) c.loop-i.users.items) c.loop-i.i past c.loop-i.invariant.so_far
