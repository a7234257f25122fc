-- The sets of abstract names, by the types of sockets that have them.
use Rattle.std.specs.FinMap as map
use Rattle.af_base.specs.declared.events.SockType.{SockType}
use Rattle.af_base.specs.declared.events.SockType.TheVariants.{Stream, Seqpacket, Dgram}
use Rattle.af_listen.specs.NamesView.{NamesView}
use Rattle.af_listen.specs.declared.name_sets.NameSets.{NameSets}

-- No set has a name.
abbrev pub no_names : NameSets
no_names = record { connections = map.empty; datagrams = map.empty }

-- The names of the set of this type (unix(7), abstract).
abbrev pub names_in : NameSets → SockType → NamesView
names_in names Stream = names.connections
names_in names Seqpacket = names.connections
names_in names Dgram = names.datagrams

-- The sets with these names in the one of this type.
abbrev pub with_names : SockType → NamesView → NameSets → NameSets
with_names Stream own names = record names { connections = own }
with_names Seqpacket own names = record names { connections = own }
with_names Dgram own names = record names { datagrams = own }
