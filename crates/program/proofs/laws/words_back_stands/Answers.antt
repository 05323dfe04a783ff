use Rattle.program.specs.Words.{place_in}
use Rattle.program.proofs.Storing.{length_words_of, step_of_words, place_of_words}
use Rattle.program.proofs.laws.words_back_stands.Goals as goal

pub returns : goal.returns
unfolding place_in
returns c = λ s p. (length_words_of s p, step_of_words s p, place_of_words s p)
