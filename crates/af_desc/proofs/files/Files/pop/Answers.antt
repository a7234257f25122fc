use Rattle.std.proofs.Common.{rules, ◌≡◌, refl}
use Rattle.std.specs.Prelude.{None, Option, Some}
use Rattle.af_base.specs.Names.{bound_to}
use Rattle.af_base.specs.World.{Socket}
use Rattle.af_desc.specs.Holding.{without_popped}
use Rattle.af_desc.specs.declared.contents.Popped.{Popped}
use Rattle.af_desc.specs.declared.contents.Popped.TheVariants.{Embryo, Message}
use Rattle.af_desc.proofs.FilesInvariant.{socket_changed}
use Rattle.af_desc.proofs.files.Files.pop.Goals as goal

-- A pop changes no name and no type.
same-name : (o : Option Popped) (s : Socket) → bound_to (without_popped o s) ≡ bound_to s
same-name (Some (Message user)) s = refl
same-name (Some (Embryo f)) s = refl
same-name None s = refl

pub invariant_of-self : goal.invariant_of-self
invariant_of-self c = socket_changed c.self.inside.rows c.pop.new.self _ _ _ _ _ _ _ c.self.invariant c.args.file.now (without_popped c.pop.result) (same-name c.pop.result) c.pop.ensures.rest

pub returns-clause-popped : goal.returns-clause-popped
returns-clause-popped c = search rules
