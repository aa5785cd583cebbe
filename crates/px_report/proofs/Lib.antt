mod NoFloats
mod FormLemmas
