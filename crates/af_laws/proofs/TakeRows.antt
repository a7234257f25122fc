-- The rows of a receive compute.
use Rattle.std.proofs.Common.{refl}
use Rattle.af_laws.specs.Rows.{BordersAreReadOver, BytesBeforeComeAlone, FilesAreABarrier, OneByteBringsTheFiles, PacketIsCut}

pub one_byte_brings_the_files : OneByteBringsTheFiles
one_byte_brings_the_files = refl

pub borders_are_read_over : BordersAreReadOver
borders_are_read_over = refl

pub files_are_a_barrier : FilesAreABarrier
files_are_a_barrier = refl

pub bytes_before_come_alone : BytesBeforeComeAlone
bytes_before_come_alone = refl

pub packet_is_cut : PacketIsCut
packet_is_cut = refl
