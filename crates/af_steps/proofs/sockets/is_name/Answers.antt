use Rattle.std.proofs.Common.{◌≡◌, ◌≤◌, ◌∙◌, ℕ, ◌&&◌, List, length, sym, arith}
use Rattle.std.specs.List.{list_all}
use Rattle.std.proofs.lemmas.Bool.{le-leb}
use Rattle.af_base.specs.declared.limits.TheConstants.{MAX_NAME}
use Rattle.af_base.specs.Names.{is_name, is_name_byte}
use Rattle.af_steps.proofs.sockets.is_name.Goals as goal

-- A name has a valid length and valid bytes.
named-by : (bytes : List ℕ) → 1 ≤ length bytes → length bytes ≤ MAX_NAME → list_all is_name_byte bytes ≡ is_name bytes
named-by bytes some few = sym (λ i. (le-leb 1 (length bytes) some i && le-leb (length bytes) MAX_NAME few i) && list_all is_name_byte bytes)

pub returns-then-bytes-le-MAX_NAME : goal.returns-then-bytes-le-MAX_NAME
returns-then-bytes-le-MAX_NAME c = c.are_name_bytes.ensures ∙ named-by c.args.bytes.now (grind (arith, c.is_empty.ensures)) (omega arith)
