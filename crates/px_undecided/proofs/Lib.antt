mod LookLists
mod CountLists
mod CutLemmas
mod RefutedLemmas
