mod Computing
