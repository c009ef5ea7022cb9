-- The faults of a writer for the faults of an encoding.
use Rattle.der_layout.specs.declared.fault.EncodeFault.{EncodeFault}
use Rattle.der_layout.specs.declared.fault.EncodeFault.TheVariants as encoded
use Rattle.der_writer.specs.declared.fault.WriteFault.{WriteFault}
use Rattle.der_writer.specs.declared.fault.WriteFault.TheVariants.{Memory, NotOfType, TooLong}

-- the fault of a writer after this fault of its encoding
abbrev pub fault_of : EncodeFault → WriteFault
fault_of encoded.Memory = Memory
fault_of encoded.NotOfType = NotOfType
fault_of encoded.TooLong = TooLong
