use Rattle.std.proofs.Common.{◌≡◌, ◌≤◌, ◌<◌, ◌+◌, ◌∷◌, ◌++◌, ◌∙◌, [], ap, arith, length, subst, sym}
use Rattle.std.proofs.lemmas.List.{length-append}
use Rattle.scm_lines.specs.Payload.{unescape}
use Rattle.scm_lines.proofs.PayloadLemmas.{bytes_before, bytes_before_more}
use Rattle.scm_lines.proofs.payload.unescape_word.Goals as goal

pub loop-rest-preserved : goal.loop-rest-preserved
loop-rest-preserved c =
    let front = c.loop-rest.bytes in
    let after = c.push_reserved.new.self in
    let b = c.in-Some.byte in
    let rest = unescape c.in-Some.tail.now in
    let grown : after.items ≡ front.items ++ b ∷ [] = c.push_reserved.ensures.items in
    let shorter : length c.in-Some.tail.now < length c.loop-rest.rest.now = c.in-Some.ensures.shorter in
    let fits : length front.items + length c.loop-rest.rest.now ≤ front.capacity = c.loop-rest.invariant.room in
    let room : length front.items + 1 + length c.in-Some.tail.now ≤ front.capacity = omega arith in
    record {
      said = ap (λ xs. bytes_before xs rest) grown ∙ sym (bytes_before_more front.items b rest) ∙ ap (bytes_before front.items) (sym c.in-Some.ensures.some) ∙ c.loop-rest.invariant.said;
      room = subst (λ n. n + length c.in-Some.tail.now ≤ after.capacity) (sym (ap length grown ∙ length-append front.items (b ∷ [])))
          (subst (λ k. length front.items + 1 + length c.in-Some.tail.now ≤ k) (sym c.push_reserved.ensures.capacity) room);
    }
