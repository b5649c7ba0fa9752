mod SpelledLemmas
