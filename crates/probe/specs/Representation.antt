-- The C entries' types as representations of the definitions' values.
use Rattle.header.specs.Representation as header
use Rattle.probe.specs.declared.headers.Fields.{Fields}

-- the numbers of a reader's answer
abbrev pub fields_as : header.Fields → Fields
fields_as f =
    record { number = f.number; main_type = f.main_type; subtype = f.subtype; version = f.version; length_number = f.length_number; used = f.used }
