-- What is printed where no ticket came of some bytes.
use Rattle.std.specs.Prelude.{ℕ, List, ◌∷◌, ◌++◌, codes, decimal}
use Rattle.ticket.specs.Faults.{refusal_number}
use Rattle.ticket.specs.declared.failure.Failure.{Failure}
use Rattle.ticket.specs.declared.failure.Failure.TheVariants.{Refused, OutOfMemory}
use Rattle.ticket.specs.declared.fault.Fault.{Fault}
use Rattle.ticket.specs.declared.fault.Layer.{Layer}
use Rattle.ticket.specs.declared.fault.Layer.TheVariants.{Reader, Sizing, Workspace}

-- the name of a layer
abbrev pub layer_name : Layer → List ℕ
layer_name Reader = codes "reader"
layer_name Sizing = codes "sizing"
layer_name Workspace = codes "workspace"

-- two words with one space between
abbrev pub spaced : List ℕ → List ℕ → List ℕ
spaced word rest = word ++ 32 ∷ rest

-- the number of the refusal, the layer, and the place
abbrev pub fault_line : Fault → List ℕ
fault_line f =
    spaced (codes "ticket")
    (spaced (decimal (refusal_number f.refusal))
    (spaced (layer_name f.layer)
    (spaced (decimal f.«record») (decimal f.byte))))

-- the line of the fault, or that there was no memory
abbrev pub failure_text : Failure → List ℕ
failure_text (Refused f) = fault_line f
failure_text OutOfMemory = codes "out of memory"
